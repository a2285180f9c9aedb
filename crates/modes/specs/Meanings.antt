-- What the modes of the code stand for in the rules, in a text with the facts x. Assumes nothing.
use Rattle.std.specs.Prelude.{◌≡◌, ℕ, zero, suc, List}
use Rattle.grammar.specs.Trees as tree
use Rattle.statics.specs.Modes as rules
use Rattle.statics.specs.Scopes.{Text}
use Rattle.statics.specs.Written.{element_of}
use Rattle.nodes.specs.Nodes.{IsAmode}
use Rattle.nodes.specs.declared.Node.{Node}
use Rattle.modes.specs.declared.Plain.{Plain}
use Rattle.modes.specs.declared.Plain.TheVariants.{Int, Byte}
use Rattle.modes.specs.declared.Base.{Base}
use Rattle.modes.specs.declared.Base.TheVariants as base
use Rattle.modes.specs.declared.Element.{Element}
use Rattle.modes.specs.declared.Mode.{Mode}
use Rattle.modes.specs.declared.Mode.TheVariants as mode
use Rattle.modes.specs.declared.Thing.{Thing}
use Rattle.modes.specs.declared.Thing.TheVariants as thing
use Rattle.modes.specs.declared.Need.{Need}
use Rattle.modes.specs.declared.Need.TheVariants as need

abbrev pub plain_means : Plain → rules.Plain
plain_means Int = rules.int
plain_means Byte = rules.byte

abbrev pub base_means : Text → Base → rules.Element
base_means x (base.Plain k) = rules.simple (rules.plain (plain_means k))
base_means x (base.Ref k) = rules.simple (rules.ref (plain_means k))
base_means x (base.RefRecord n) = rules.simple (rules.ref_record (x.word n))
base_means x (base.Record n) = rules.records (x.word n)

-- n REF ARRAYs in front
abbrev pub behind : ℕ → rules.Element → rules.Element
behind zero e = e
behind (suc n) e = rules.simple (rules.ref_array (behind n e))

abbrev pub element_means : Text → Element → rules.Element
element_means x e = behind e.arrays (base_means x e.base)

abbrev pub mode_means : Text → Mode → rules.Mode
mode_means x (mode.Plain k) = rules.plain (plain_means k)
mode_means x (mode.Ref k) = rules.ref (plain_means k)
mode_means x (mode.RefRecord n) = rules.ref_record (x.word n)
mode_means x (mode.RefArray e) = rules.ref_array (element_means x e)

abbrev pub thing_means : Text → Thing → rules.Thing
thing_means x (thing.Value m) = rules.value (mode_means x m)
thing_means x (thing.Place b m) = rules.place b (mode_means x m)
thing_means x (thing.Array e) = rules.array (element_means x e)
thing_means x (thing.Record n) = rules.structure (x.word n)

abbrev pub need_means : Text → Need → rules.Need
need_means x (need.Mode m) = rules.mode (mode_means x m)
need_means x need.Number = rules.number
need_means x need.Reference = rules.reference
need_means x need.Elements = rules.elements
need_means x need.Components = rules.components
need_means x need.Scalar = rules.scalar
need_means x need.Pointed = rules.pointed

-- no REF ARRAY stands in front
abbrev pub Bare : tree.Amode → Type 0
Bare (tree.simple (tree.ref_array m)) = ⊥
Bare (tree.simple (tree.ref_array_brackets i m)) = ⊥
Bare m = Unit {0}

-- m is a REF ARRAY of the elements at r
abbrev pub IsArrayOf : List Node → tree.Amode → ℕ → Type 0
IsArrayOf ns m r = (n : tree.Amode) × IsAmode n ns r × ((x : Text) → element_of x m ≡ rules.simple (rules.ref_array (element_of x n)))
