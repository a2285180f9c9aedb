-- What the names of the code stand for in the rules. Assumes nothing.
use Rattle.std.specs.Prelude.{◌≡◌, ℕ, List, map, take, drop, Ok, Err, Option, Result, MatchResult, option_map}
use Rattle.statics.specs.declared.Refusal.{Refusal}
use Rattle.statics.specs.Scopes as rules
use Rattle.statics.specs.JudgeExpressions.{called_at}
use Rattle.texts.specs.Facts.{facts}
use Rattle.modes.specs.declared.Mode.{Mode}
use Rattle.modes.specs.Meanings.{mode_means, thing_means}
use Rattle.scopes.specs.declared.Signature.{Signature}
use Rattle.scopes.specs.declared.Class.{Class}
use Rattle.scopes.specs.declared.Class.TheVariants.{RecordMode, Brick, Stored, Local, Routine, Part}
use Rattle.scopes.specs.declared.Declared.{Declared}
use Rattle.scopes.specs.declared.Component.{Component}
use Rattle.scopes.specs.declared.Head.{Head}
use Rattle.scopes.specs.declared.Head.TheVariants as head
use Rattle.scopes.specs.declared.Env.{Env}

-- in a text with the facts x and a table ms of parameters' modes
abbrev pub signed : rules.Text → List Mode → Signature → rules.Signature
signed x ms s = record { takes = map (mode_means x) (take s.count (drop s.first ms)); gives = option_map (mode_means x) s.gives }

abbrev pub classed : rules.Text → List Mode → Class → rules.Class
classed x ms RecordMode = rules.record_mode
classed x ms Brick = rules.brick
classed x ms (Stored t) = rules.stored (thing_means x t)
classed x ms (Local m) = rules.local (mode_means x m)
classed x ms (Routine s) = rules.routine (signed x ms s)
classed x ms Part = rules.part

abbrev pub declared_means : rules.Text → List Mode → Declared → rules.Declared
declared_means x ms d = record { word = x.word d.item; class = classed x ms d.class }

abbrev pub component_means : rules.Text → Component → rules.Component
component_means x c = record { owner = x.word c.owner; word = x.word c.item; mode = mode_means x c.mode }

abbrev pub env_means : Env → rules.Env
env_means e =
    let x = facts e.text in
    record {
      text = x;
      names = map (declared_means x e.takes.now) e.names.now;
      ready = e.ready;
      parts = map (component_means x) e.parts.now;
      result = option_map (mode_means x) e.result;
    }

-- the same where the text and the table are those of an environment
abbrev pub signature_means : Env → Signature → rules.Signature
signature_means e = signed (facts e.text) e.takes.now

abbrev pub class_means : Env → Class → rules.Class
class_means e = classed (facts e.text) e.takes.now

abbrev pub head_means : Env → Head → rules.Head
head_means e (head.Thing t) = rules.thing (thing_means (facts e.text) t)
head_means e (head.Signature s) = rules.signature (signature_means e s)

-- the class of the name at n, if it is known and can be used
abbrev pub class_called : rules.Env → ℕ → Option rules.Class
class_called Γ n = option_map (rules.class_at Γ) (called_at Γ n)

-- What is answered is what the rules have, f saying what it stands for there.
abbrev pub Answers : {A B : Type 0} → (A → B) → Result A Refusal → Result B Refusal → Type 0
Answers f r j = MatchResult r (λ a. j ≡ Ok (f a)) (λ e. j ≡ Err e)
