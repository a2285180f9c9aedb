-- What is in scope by a frame and a table of names, and what is put into such a table. Assumes nothing.
use Rattle.std.specs.Prelude.{◌≡◌, ℕ, ◌+◌, ◌≤◌, List, ◌++◌, map, length, take, drop, option_map}
use Rattle.grammar.specs.Machine.{Sort, unset, set, Declared as Entry}
use Rattle.grammar.specs.Trees.{Many, Fields, field, also, next}
use Rattle.statics.specs.Scopes as rules
use Rattle.statics.specs.Written.{Site, site, list_names, mode_of}
use Rattle.statics.specs.Modules.{Field as RuleField, last_mode, names_of}
use Rattle.texts.specs.Facts.{facts}
use Rattle.modes.specs.declared.Mode.{Mode}
use Rattle.modes.specs.Meanings.{mode_means}
use Rattle.scopes.specs.declared.Declared.{Declared}
use Rattle.scopes.specs.Meanings.{classed, declared_means, component_means}
use Rattle.frames.specs.declared.Frame.{Frame}
use Rattle.frames.specs.declared.fields.Field.{Field}

-- the environment of the rules: the first `count` of the names are in scope
abbrev pub frame_means : Frame → List Declared → rules.Env
frame_means f ns =
    let x = facts f.text in
    record {
      text = x;
      names = map (declared_means x f.takes.now) (take f.count ns);
      ready = f.ready;
      parts = map (component_means x) f.parts.now;
      result = option_map (mode_means x) f.result;
    }

-- the same with so many names in scope, of which so many can be used
abbrev pub counted : Frame → ℕ → ℕ → Frame
counted f n r = record { text = f.text; count = n; ready = r; parts = f.parts; takes = f.takes; result = f.result }

-- a name of a table, as the rules have it; likewise a component or parameter
abbrev pub site_means : rules.Text → List Mode → Declared → Site
site_means x ms d = record { item = d.item; class = classed x ms d.class }

abbrev pub field_means : rules.Text → Field → RuleField
field_means x f = record { item = f.item; mode = mode_means x f.mode }

-- the last of a list
abbrev pub last_item : Fields → ℕ
last_item (field m n) = n
last_item (also fs n) = n
last_item (next fs m n) = n

abbrev pub last_field : rules.Text → Fields → RuleField
last_field x fs = record { item = last_item fs; mode = mode_of x (last_mode fs) }

-- how a component is declared inside its brackets, and a parameter
abbrev pub part_site : RuleField → Site
part_site f = site rules.part f.item

abbrev pub parameter_site : RuleField → Site
parameter_site f = site (rules.local f.mode) f.item

-- the names of a list, which may have values
abbrev pub declared_names : (s : Sort) → Many (Entry s) → List ℕ
declared_names unset = names_of
declared_names (set v) = list_names

-- A table is filled from its end: entries that began at `before` begin at `start` now. In front of them nothing has changed.
pub record Kept {T : Type 0} (before : ℕ) (old : List T) (start : ℕ) (new : List T) : Type 0 where
  pub lower : start ≤ before
  pub length : length new ≡ length old
  pub front : take start new ≡ take start old

-- and what was put in front of the others stands for us, if there is room for as many
abbrev pub Ahead : {T U : Type 0} → (T → U) → List U → ℕ → List T → ℕ → List T → Type 0
Ahead f us before old start new = length us ≤ before → before ≤ length old → (start + length us ≡ before) × (map f (drop start new) ≡ us ++ map f (drop before old))

-- behind the first `count` entries stand some that stand for us, up to `end`, if there is room for as many
abbrev pub Behind : {T U : Type 0} → (T → U) → List U → ℕ → List T → ℕ → List T → Type 0
Behind f us count old end new = count + length us ≤ length old → (end ≡ count + length us) × (map f (take end new) ≡ map f (take count old) ++ us)
