use Rattle.declarations.specs.Referring.{Behind, AmodeMade}
use Rattle.declarations.proofs.amode.Given as goal

abbrev pub invariant-loop-inner : goal.invariant-loop-inner
invariant-loop-inner l = Behind l.from.depth l.from.symbols.now l.from.next l.inner.begin × AmodeMade l.from.depth l.from.symbols.now l.inner.begin l.from.used l.initial.nodes l.nodes l.inner.mode

abbrev pub decreases-loop-inner : goal.decreases-loop-inner
decreases-loop-inner l = l.inner.begin
