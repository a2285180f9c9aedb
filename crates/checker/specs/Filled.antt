-- The tables hold what a module declares. Assumes nothing.
use Rattle.std.specs.Prelude.{◌≡◌, ◌≤◌, List, None, length, map, take}
use Rattle.grammar.specs.Trees.{Module}
use Rattle.statics.specs.Written.{gather}
use Rattle.statics.specs.Modules.{moditem_names, moditem_parts}
use Rattle.texts.specs.Facts.{facts}
use Rattle.scopes.specs.declared.Declared.{Declared}
use Rattle.scopes.specs.Meanings.{component_means}
use Rattle.frames.specs.declared.Frame.{Frame}
use Rattle.frames.specs.Frames.{site_means}

-- the frame f and the table of names hold what the module m declares, and nothing else, before anything in it is judged
pub record Filled (f : Frame) (m : Module) (names : List Declared) : Type 0 where
  -- the names that count stand in the table
  pub few : f.count ≤ length names
  -- they are those of the module, in their order, with what each is declared as
  pub named : map (site_means (facts f.text) f.takes.now) (take f.count names) ≡ gather (moditem_names (facts f.text)) m
  -- all of them can be used
  pub even : f.ready ≡ f.count
  -- the components are those of the module's record modes
  pub parts : map (component_means (facts f.text)) f.parts.now ≡ gather (moditem_parts (facts f.text)) m
  -- nothing is to be returned, outside a procedure
  pub none : f.result ≡ None
