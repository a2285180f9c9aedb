use Rattle.std.proofs.Common.{ℕ, [], drop, length, map, take, sym, ap, subst, ◌∙◌, refl, arith}
use Rattle.scopes.specs.declared.Declared.{Declared}
use Rattle.statics.specs.Blocks.{arms_blocks, inner_blocks, statement_blocks}
use Rattle.statics.specs.JudgeLimits.{doubles}
use Rattle.statics.specs.Order.{InSequence}
use Rattle.frames.specs.Rooms.{Room}
use Rattle.texts.specs.Facts.{facts}
use Rattle.lists.specs.Lists.{left}
use Rattle.limits.specs.Twice.{block_scope, earliest_double}
use Rattle.frames.proofs.Entering.{Armed, Entered}
use Rattle.limits.proofs.Holding.{block_found, branch_found, arm_found, branch_else_found, statements_in, arms_in, statements_on, arms_on, statements_past, arms_past}
use Rattle.limits.proofs.Looking.{looking_out}
use Rattle.limits.proofs.Scoped.{body_found}
use Rattle.limits.proofs.Tables.{none_between, take_less, lent}
use Rattle.limits.proofs.twice.+scopes.Goals as goal

pub twice_in_body-returns-clause-front : goal.twice_in_body-returns-clause-front
twice_in_body-returns-clause-front t c le = c.twice_in_statements.ensures.front ∙ take_less c.args.base c.args.given c.declare_locals-end.new.names c.args.names.now le c.declare_locals-end.ensures.front

pub twice_in_body-returns-clause-found : goal.twice_in_body-returns-clause-found
twice_in_body-returns-clause-found t c b is le room =
    body_found (facts c.args.text) c.args.nodes.now c.args.k b c.in-Body.locals c.in-Body.statements c.args.base c.args.given c.declare_locals-end.result c.args.names.now c.declare_locals-end.new.names c.unwrap_or_default.result.now c.doubled-own.result c.twice_in_statements.result c.earlier.result (sym c.node_at.ensures ∙ c.in-Body.is) is le room c.declare_locals-end.ensures.length
    (λ ls at. c.declare_locals-end.ensures.behind (facts c.args.text) [] ls at)
    (λ order within. lent c.get.result _ c.unwrap_or_default.result c.declare_locals-end.new.names c.args.base c.declare_locals-end.result c.get.ensures.lookup c.unwrap_or_default.ensures order within)
    c.doubled-own.ensures c.twice_in_statements.ensures.statements c.earlier.ensures

pub twice_in_statement-returns-in-BranchElse-clause-statement :
    goal.twice_in_statement-returns-in-BranchElse-clause-statement
twice_in_statement-returns-in-BranchElse-clause-statement t c s is room =
    branch_else_found (facts c.args.text) c.args.nodes.now c.args.k c.args.base (length c.args.names.now) s c.node_at.result c.in-BranchElse.arms c.in-BranchElse.last c.twice_in_statements-found.result c.twice_in_statements.result c.earlier.result c.node_at.ensures c.in-BranchElse.is is room
    (c.twice_in_statements-found.ensures.arms)
    (λ ss at r. c.twice_in_statements.ensures.statements ss at (subst (λ (n : ℕ). Room InSequence ss c.args.base n) (sym c.twice_in_statements-found.ensures.length) r))
    c.earlier.ensures

pub twice_in_statement-returns-in-Branch-clause-statement :
    goal.twice_in_statement-returns-in-Branch-clause-statement
twice_in_statement-returns-in-Branch-clause-statement t c s is room = branch_found (facts c.args.text) c.args.nodes.now c.args.k c.args.base (length c.args.names.now) s c.node_at.result c.in-Branch.inner c.twice_in_statements-in-Branch.result c.node_at.ensures c.in-Branch.is is room c.twice_in_statements-in-Branch.ensures.arms c.twice_in_statements-in-Branch.ensures.statements

pub twice_in_statement-returns-in-Branch-clause-arm :
    goal.twice_in_statement-returns-in-Branch-clause-arm
twice_in_statement-returns-in-Branch-clause-arm t c w ss is room = arm_found (facts c.args.text) c.args.nodes.now c.args.k c.args.base (length c.args.names.now) w ss c.node_at.result c.in-Branch.inner c.twice_in_statements-in-Branch.result c.node_at.ensures c.in-Branch.is is room c.twice_in_statements-in-Branch.ensures.statements

pub twice_in_statement-returns-in-Block-clause-statement :
    goal.twice_in_statement-returns-in-Block-clause-statement
twice_in_statement-returns-in-Block-clause-statement t c s is room =
    block_found (facts c.args.text) c.args.nodes.now c.args.k c.args.base (length c.args.names.now) s c.node_at.result c.in-Block.inner (map (λ (d : Declared). d.item) (drop c.args.base (take c.args.base c.args.names.now))) c.twice_in_body.result c.node_at.ensures c.in-Block.is is room (none_between (λ (d : Declared). d.item) c.args.base c.args.names.now) (λ b at r. c.twice_in_body.ensures.found b at (omega arith) r)

pub twice_in_statements-loop-entry-init : goal.twice_in_statements-loop-entry-init
twice_in_statements-loop-entry-init t c =
    let all = ap left c.into_iter-entry-iterator.ensures.into_iter_gives ∙ c.entries-entry-items.ensures.listed in
    record {
      same = refl;
      front = refl;
      statements = λ ss is room. statements_in (facts c.args.text) c.args.nodes.now c.args.k c.args.base (length c.args.names.now) (left c.into_iter-entry-iterator.result) ss all is room;
      arms = λ ws is room. arms_in (facts c.args.text) c.args.nodes.now c.args.k c.args.base (length c.args.names.now) (left c.into_iter-entry-iterator.result) ws all is room;
    }

pub twice_in_statements-loop-entry-preserved-then-entry-k :
    goal.twice_in_statements-loop-entry-preserved-then-entry-k
twice_in_statements-loop-entry-preserved-then-entry-k t c =
    record {
      same = c.twice_in_statement.ensures.length ∙ c.loop-entry.invariant.same;
      front = c.twice_in_statement.ensures.front ∙ c.loop-entry.invariant.front;
      statements = λ ss is room. statements_on (facts c.args.text) c.args.nodes.now c.args.k c.args.base (length c.args.names.now) (left c.loop-entry.entry-iterator) c.in-Some.entry (left c.next.new.self) c.loop-entry.found (earliest_double (facts c.args.text) (inner_blocks (block_scope (facts c.args.text)) ss)) c.in-Some.ensures.steps c.twice_in_statement.result c.earlier-found.result (length c.loop-entry.names) c.loop-entry.invariant.same c.earlier-found.ensures c.twice_in_statement.ensures.statement (c.loop-entry.invariant.statements ss is room);
      arms = λ ws is room. arms_on (facts c.args.text) c.args.nodes.now c.args.k c.args.base (length c.args.names.now) (left c.loop-entry.entry-iterator) c.in-Some.entry (left c.next.new.self) c.loop-entry.found (earliest_double (facts c.args.text) (arms_blocks (block_scope (facts c.args.text)) ws)) c.in-Some.ensures.steps c.twice_in_statement.result c.earlier-found.result (length c.loop-entry.names) c.loop-entry.invariant.same c.earlier-found.ensures c.twice_in_statement.ensures.arm (c.loop-entry.invariant.arms ws is room);
    }

pub twice_in_statements-loop-entry-preserved : goal.twice_in_statements-loop-entry-preserved
twice_in_statements-loop-entry-preserved t c = record {
  same = c.loop-entry.invariant.same;
  front = c.loop-entry.invariant.front;
  statements = λ ss is room. statements_past (facts c.args.text) c.args.nodes.now c.args.k c.args.base (length c.args.names.now) (left c.loop-entry.entry-iterator) c.in-Some.entry (left c.next.new.self) c.loop-entry.found (earliest_double (facts c.args.text) (inner_blocks (block_scope (facts c.args.text)) ss)) c.in-Some.ensures.steps c.if-entry-k.false (c.loop-entry.invariant.statements ss is room);
  arms = λ ws is room. arms_past (facts c.args.text) c.args.nodes.now c.args.k c.args.base (length c.args.names.now) (left c.loop-entry.entry-iterator) c.in-Some.entry (left c.next.new.self) c.loop-entry.found (earliest_double (facts c.args.text) (arms_blocks (block_scope (facts c.args.text)) ws)) c.in-Some.ensures.steps c.if-entry-k.false (c.loop-entry.invariant.arms ws is room);
}

pub twice_in_statements-returns-clause-statements :
    goal.twice_in_statements-returns-clause-statements
twice_in_statements-returns-clause-statements t c ss is room = looking_out (doubles (facts c.args.text)) (statement_blocks (block_scope (facts c.args.text))) (Entered c.args.k c.args.base (length c.args.names.now)) c.args.nodes.now (left c.loop-entry.entry-iterator) c.loop-entry.found (earliest_double (facts c.args.text) (inner_blocks (block_scope (facts c.args.text)) ss)) c.in-None.ensures.steps.0 (c.loop-entry.invariant.statements ss is room)

pub twice_in_statements-returns-clause-arms : goal.twice_in_statements-returns-clause-arms
twice_in_statements-returns-clause-arms t c ws is room = looking_out (doubles (facts c.args.text)) (arms_blocks (block_scope (facts c.args.text))) (Armed c.args.k c.args.base (length c.args.names.now)) c.args.nodes.now (left c.loop-entry.entry-iterator) c.loop-entry.found (earliest_double (facts c.args.text) (arms_blocks (block_scope (facts c.args.text)) ws)) c.in-None.ensures.steps.0 (c.loop-entry.invariant.arms ws is room)
