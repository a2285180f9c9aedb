use Rattle.std.proofs.Common.{◌≡◌, Ok, sym, ◌∙◌, arith}
use Rattle.grammar.specs.Trees.{Amode, simple}
use Rattle.nodes.specs.Nodes.{IsAmode}
use Rattle.scopes.specs.Meanings.{env_means}
use Rattle.statics.specs.JudgeStatements.{judge_element}
use Rattle.scopes.proofs.Following.{answered}
use Rattle.blocks.proofs.Naming.{behind, names, nameless}
use Rattle.blocks.proofs.written.written.Goals as goal

pub loop-inner-preserved : goal.loop-inner-preserved
loop-inner-preserved c m is =
    let x = c.loop-inner.invariant m is in
    let y = behind (env_means c.args.env) _ _ x.0 _ _ (sym c.node_at.ensures) c.in-RefArray.is x.1 in
    (y.1, y.2, x.2 ∙ y.3)

pub returns-then-inner-at-clause-element : goal.returns-then-inner-at-clause-element
returns-then-inner-at-clause-element c m is =
    let x = c.loop-inner.invariant m is in
    let y = behind (env_means c.args.env) _ _ x.0 _ _ (sym c.node_at.ensures) c.in-RefArray.is x.1 in
    absurd (omega (arith, y.0, c.if-inner-at.true))

pub returns-then-inner-at-clause-mode : goal.returns-then-inner-at-clause-mode
returns-then-inner-at-clause-mode c m is = returns-then-inner-at-clause-element c (simple m) is

pub returns-in-RefRecord-clause-element : goal.returns-in-RefRecord-clause-element
returns-in-RefRecord-clause-element c m is =
    let x = c.loop-inner.invariant m is in
    answered _ _ _ _ (x.2 ∙ names (env_means c.args.env) _ _ x.0 _ _ (sym c.node_at.ensures) c.in-RefRecord.is x.1) c.shapes.ensures

pub returns-in-RefRecord-clause-mode : goal.returns-in-RefRecord-clause-mode
returns-in-RefRecord-clause-mode c m is = returns-in-RefRecord-clause-element c (simple m) is

pub returns-in_default : goal.returns-in_default
returns-in_default c =
    let none : (m : Amode) → IsAmode m c.args.nodes.now c.args.k → judge_element (env_means c.args.env) m ≡ Ok tt = λ m is.
    let x = c.loop-inner.invariant m is in
    x.2 ∙ nameless (env_means c.args.env) _ _ x.0 (λ r at. c.in_default.not-RefArray r (c.node_at.ensures ∙ at)) (λ i r at. c.in_default.not-RefArrayBrackets i r (c.node_at.ensures ∙ at)) (λ n at. c.in_default.not-RefRecord n (c.node_at.ensures ∙ at)) (λ n at. c.in_default.not-Records n (c.node_at.ensures ∙ at)) x.1 in
    record { mode = λ m is. none (simple m) is; element = none }
