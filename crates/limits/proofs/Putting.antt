-- The locals of blocks, put in front of others in a table. Assumes nothing.
use Rattle.std.proofs.Common.{◌≡◌, ℕ, ◌+◌, List, [], ◌++◌, map, length, drop, ap, sym, ◌∙◌, append_assoc, arith, length-append}
use Rattle.std.proofs.lemmas.List.{length-map, map-append}
use Rattle.std.proofs.lemmas.Simd.{map-map}
use Rattle.grammar.specs.Trees.{Locals, Body, body, Sequence}
use Rattle.nodes.specs.declared.Node.{Node}
use Rattle.nodes.specs.declared.Node.TheVariants.{Body as BodyNode}
use Rattle.nodes.specs.Nodes.{At, IsBody, IsSequence, IsLocals}
use Rattle.statics.specs.Scopes.{Text}
use Rattle.statics.specs.Statements.{entries}
use Rattle.statics.specs.Blocks.{blocks, inner_blocks}
use Rattle.statics.specs.DeclaredTwice.{block_names}
use Rattle.modes.specs.declared.Mode.{Mode}
use Rattle.scopes.specs.declared.Declared.{Declared}
use Rattle.frames.specs.Frames.{Ahead, site_means}
use Rattle.frames.proofs.Entering.{both_parts}

module _ {T U : Type 0} (f : T → U) where
  -- some, and then more in front of them
  pub ahead_two : (us vs : List U) (before : ℕ) (old : List T) (start : ℕ) (mid : List T) (begin : ℕ) (new : List T) → length mid ≡ length old → Ahead f vs before old start mid → Ahead f us start mid begin new → Ahead f (us ++ vs) before old begin new
  ahead_two us vs before old start mid begin new len a b room within =
      let sum : length (us ++ vs) ≡ length us + length vs = length-append us vs in
      let x = a (omega (arith, sum, room)) within in
      let y = b (omega (arith, sum, room, x.0)) (omega (arith, len, x.0)) in
      (omega (arith, sum, y.0, x.0), y.1 ∙ ap (λ ws. us ++ ws) x.1 ∙ sym (append_assoc us vs (map f (drop before old))))

ahead_mapped : {T U V : Type 0} (f : T → U) (h : U → V) (us : List U) (before : ℕ) (old : List T) (start : ℕ) (new : List T) → Ahead f us before old start new → Ahead (λ t. h (f t)) (map h us) before old start new
ahead_mapped f h us before old start new a room within =
    let same : length (map h us) ≡ length us = length-map us h in
    let x = a (omega (arith, same, room)) within in
    (omega (arith, same, x.0), sym (map-map h f (drop start new)) ∙ ap (map h) x.1 ∙ map-append h us (map f (drop before old)) ∙ ap (λ ws. map h us ++ ws) (map-map h f (drop before old)))

-- the names of a block's locals, by their items
pub ahead_block : (x : Text) (ms : List Mode) (ls : Locals) (before : ℕ) (old : List Declared) (start : ℕ) (new : List Declared) → Ahead (site_means x ms) (entries x ls) before old start new → Ahead (λ d. d.item) (block_names x ls) before old start new
ahead_block x ms ls before old start new a = ahead_mapped (site_means x ms) (λ s. s.item) (entries x ls) before old start new a

-- the statements of a body, and then its own locals in front of them
pub body_put : (x : Text) (ns : List Node) (k l r before : ℕ) (old : List Declared) (start : ℕ) (mid : List Declared) (begin : ℕ) (new : List Declared) (b : Body) → At ns k (BodyNode l r) → IsBody b ns k → length mid ≡ length old → ((ss : Sequence) → IsSequence ss ns r → Ahead (λ d. d.item) (inner_blocks (block_names x) ss) before old start mid) → ((ls : Locals) → IsLocals ls ns l → Ahead (site_means x []) (entries x ls) start mid begin new) → Ahead (λ d. d.item) (blocks (block_names x) b) before old begin new
body_put x ns k l r before old start mid begin new (body ls s) at is len inner own =
    let w = both_parts ns k l r ls s at is in
    let a = inner s w.2 in
    let b = ahead_block x [] ls start mid begin new (own ls w.1) in
    ahead_two (λ d. d.item) (block_names x ls) (inner_blocks (block_names x) s) before old start mid begin new len a b
