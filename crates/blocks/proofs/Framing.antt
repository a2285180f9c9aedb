-- What is in scope by a frame and a table of names, where the table or the frame changes. Assumes nothing.
use Rattle.std.proofs.Common.{◌≡◌, ℕ, ◌+◌, ◌≤◌, List, ◌++◌, length, map, take, option_map, ap, sym, ◌∙◌, arith}
use Rattle.grammar.specs.Trees.{Locals}
use Rattle.statics.specs.Scopes as rules
use Rattle.statics.specs.Statements.{entries, inside, ready_inside}
use Rattle.statics.specs.Written.{declare}
use Rattle.texts.specs.Facts.{facts}
use Rattle.modes.specs.Meanings.{mode_means}
use Rattle.scopes.specs.declared.Declared.{Declared}
use Rattle.scopes.specs.Meanings.{declared_means, component_means}
use Rattle.frames.specs.declared.Frame.{Frame}
use Rattle.frames.specs.Frames.{counted, frame_means, site_means, Behind}
use Rattle.frames.proofs.Declaring.{named_behind}

-- the environment of a frame with these names and so many that can be used
abbrev pub with_names : Frame → List rules.Declared → ℕ → rules.Env
with_names f ds n = record { text = facts f.text; names = ds; ready = n; parts = map (component_means (facts f.text)) f.parts.now; result = option_map (mode_means (facts f.text)) f.result }

-- other names of the table do not matter
pub same_frame : (f : Frame) (ns ms : List Declared) → take f.count ns ≡ take f.count ms → frame_means f ns ≡ frame_means f ms
same_frame f ns ms e = ap (λ (ds : List Declared). with_names f (map (declared_means (facts f.text) f.takes.now) ds) f.ready) e

-- a block that has room for its names, before any of them can be used, and where all can
pub opened : (f : Frame) (ls : Locals) (old new : List Declared) (end : ℕ) → Behind (site_means (facts f.text) f.takes.now) (entries (facts f.text) ls) f.count old end new → f.count + length (entries (facts f.text) ls) ≤ length old → f.ready ≡ f.count → (f.ready + length (entries (facts f.text) ls) ≡ end) × (frame_means (counted f end f.ready) new ≡ inside (frame_means f old) ls) × (frame_means (counted f end end) new ≡ ready_inside (frame_means f old) ls)
opened f ls old new end behind room even =
    let b = behind room in
    let here : f.ready + length (entries (facts f.text) ls) ≡ end = omega (arith, b.0, even) in
    let names = named_behind (facts f.text) f.takes.now f.count end old new (entries (facts f.text) ls) b.1 in
    let all : (n : ℕ) → with_names f (map (declared_means (facts f.text) f.takes.now) (take end new)) n ≡ with_names f (map (declared_means (facts f.text) f.takes.now) (take f.count old) ++ map (declare (facts f.text)) (entries (facts f.text) ls)) n = λ n. ap (λ (ds : List rules.Declared). with_names f ds n) names in
    (here, all f.ready, all end ∙ ap (λ (n : ℕ). with_names f (map (declared_means (facts f.text) f.takes.now) (take f.count old) ++ map (declare (facts f.text)) (entries (facts f.text) ls)) n) (sym here))
