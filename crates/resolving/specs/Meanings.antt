-- What the answers of the code stand for in a resolved tree. Assumes nothing.
use Rattle.std.specs.Prelude.{◌≡◌, ℕ, true, List, map, take, Option, option_map}
use Rattle.grammar.specs.Trees.{Module}
use Rattle.statics.specs.Modes as rules
use Rattle.statics.specs.Modes.{Word, place}
use Rattle.statics.specs.Scopes.{Text, Env, component_at}
use Rattle.statics.specs.Written.{gather}
use Rattle.statics.specs.Modules.{moditem_names}
use Rattle.resolved.specs.Forms.{Form}
use Rattle.resolved.specs.Forms as form
use Rattle.resolved.specs.Grounds.{Ground, ground}
use Rattle.resolved.specs.ResolveExpressions.{Known, component_called, component_number}
use Rattle.modes.specs.declared.Mode.{Mode}
use Rattle.modes.specs.declared.Thing.{Thing}
use Rattle.modes.specs.Meanings.{thing_means}
use Rattle.scopes.specs.declared.Declared.{Declared}
use Rattle.frames.specs.Frames.{site_means}
use Rattle.resolving.specs.declared.Held.{Held}
use Rattle.resolving.specs.declared.Held.TheVariants.{Slot, Stored}
use Rattle.resolving.specs.declared.Span.{Span}

-- the names of the module are declared by the items of the first n in a table of names
abbrev pub Grounds : List Declared → ℕ → Ground → Type 0
Grounds ds n G = map (λ h. h.item) G ≡ map (λ d. d.item) (take n ds)

-- where these are the names of a module, its own ground is such a one
abbrev pub OwnGround : Type 0
OwnGround = (x : Text) (ms : List Mode) (ds : List Declared) (n : ℕ) (m : Module) → map (site_means x ms) (take n ds) ≡ gather (moditem_names x) m → Grounds ds n (ground x m)

abbrev pub held_means : Held → Form
held_means (Slot s) = form.local s
held_means (Stored n) = form.stored n

-- what a name stands for, and its form
abbrev pub known_means : Text → Thing × Held → Known
known_means x p = (thing_means x p.0, held_means p.1)

-- what a component stands for, and its number
abbrev pub part_means : Text → Thing × ℕ → rules.Thing × ℕ
part_means x p = (thing_means x p.0, p.1)

-- the same of the component of the record mode r that has the name at n, as a resolved tree has it
abbrev pub component_parts : Env → Word → ℕ → Option (rules.Thing × ℕ)
component_parts Γ r n = option_map (λ k. (place true (component_at Γ k).mode, component_number Γ r k)) (component_called Γ r n)

abbrev pub span_means : Span → form.Span
span_means s = record { item = s.item; first = s.first; size = s.size }
