use Rattle.std.proofs.Common.{◌≡◌, ℕ, ◌+◌, ◌<◌, List, [], ◌∷◌, ◌++◌, length, get_or, take, drop, set, sym, ap, ◌∙◌, arith}
use Rattle.std.proofs.lemmas.List.{length-take, get_or-take, take_more_set, take-map, map_more, drop-set-lt, drop-drop}
use Rattle.symbols.specs.declared.Entry.{Entry}
use Rattle.grammar.specs.declared.Symbol.{Symbol as Terminal}
use Rattle.terminals.specs.Signs.{sign, signs}
use Rattle.terminals.proofs.classify.Goals as goal

front_more :
    (es : List Entry) (out : List Terminal) (i : ℕ) (d : Entry) (x : Terminal)
    → i < length es
    → i < length out
    → x ≡ sign (get_or es i d).symbol
    → take i out ≡ take i (signs es)
    → take (i + 1) (set out i x) ≡ take (i + 1) (signs es)
front_more es out i d x l m e h =
    take_more_set out i x m ∙ ap (λ ys. ys ++ (x ∷ [])) (h ∙ take-map of i es) ∙ ap (λ y. signs (take i es) ++ (y ∷ [])) e
    ∙ sym (map_more of es i d l) ∙ sym (take-map of (i + 1) es)
  where
    of : Entry → Terminal
    of y = sign y.symbol

behind_more :
    (out before : List Terminal) (i : ℕ) (x : Terminal)
    → drop i out ≡ drop i before
    → drop (i + 1) (set out i x) ≡ drop (i + 1) before
behind_more out before i x h =
    drop-set-lt (i + 1) out i x (omega arith) ∙ sym (drop-drop 1 i out) ∙ ap (drop 1) h ∙ drop-drop 1 i before

pub loop-i-preserved : goal.loop-i-preserved
loop-i-preserved c =
    let n = length-take c.min-count.result c.args.items.now in
    let h : c.loop-i.i < c.min-count.result = omega (arith, n) in
    (front_more c.args.items.now c.loop-i.out c.loop-i.i _ c.terminal.result (omega (arith, h)) (omega (arith, h)) (c.terminal.ensures ∙ ap (λ (e : Entry). sign e.symbol) (get_or-take c.min-count.result c.args.items.now c.loop-i.i _ h)) c.loop-i.invariant.0, behind_more c.loop-i.out c.args.out.now c.loop-i.i c.terminal.result c.loop-i.invariant.1)
