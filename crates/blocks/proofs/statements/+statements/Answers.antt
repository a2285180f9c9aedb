use Rattle.std.proofs.Common.{◌≡◌, ℕ, List, Some, Result, length, take, refl, sym, ap, ◌∙◌, subst, arith}
use Rattle.std.proofs.lemmas.List.{take-take}
use Rattle.grammar.specs.Trees.{Arms, Body, Statement, when}
use Rattle.nodes.proofs.Results.{passed}
use Rattle.statics.specs.declared.Refusal.{Refusal}
use Rattle.statics.specs.Modes.{INT}
use Rattle.statics.specs.Scopes.{Env}
use Rattle.statics.specs.Fronts.{spot}
use Rattle.statics.specs.Order.{InArms, InBody, InSequence, InStatement}
use Rattle.statics.specs.JudgeExpressions.{judge, judge_condition}
use Rattle.statics.specs.JudgeStatements.{judge_into, judge_local_decs, judge_body, judge_sequence, judge_statement, judge_arms}
use Rattle.texts.specs.Facts.{facts}
use Rattle.scopes.specs.Meanings.{Answers}
use Rattle.lists.specs.Lists.{left, of_arms, of_sequence, Stand}
use Rattle.lists.proofs.Loops.{Going, going_on, going_out}
use Rattle.scopes.proofs.Following.{stops, goes, answered}
use Rattle.frames.specs.declared.Frame.{Frame}
use Rattle.frames.specs.Frames.{frame_means}
use Rattle.frames.specs.Rooms.{Room}
use Rattle.frames.proofs.Counts.{locals_fit, sequence_room, when_room}
use Rattle.frames.proofs.Entering.{any_arm, body_node, body_parts, Entered, Armed, stand_entered, stand_armed}
use Rattle.blocks.proofs.Framing.{same_frame, opened}
use Rattle.blocks.proofs.Joined.{both, stepped, answers_same, sequence_judged, arms_judged}
use Rattle.blocks.proofs.Rooming.{stated, arm_parts}
use Rattle.blocks.proofs.statements.+statements.Goals as goal

pub arm-returns-in_err-condition-in-When-clause-judged : goal.arm-returns-in_err-condition-in-When-clause-judged
arm-returns-in_err-condition-in-When-clause-judged t c w ss is even room =
    let p = arm_parts _ _ _ _ w ss (sym c.in-When.ensures) is in
    passed _ _ c.from_residual.result c.from_residual.ensures.1 (stops _ _ _ (ap (λ (Δ : Env). judge_condition Δ w) (sym c.env.ensures.means) ∙ c.in_err-condition-in-When.ensures w p.0))

pub arm-returns-in_ok-condition-in-When-clause-judged : goal.arm-returns-in_ok-condition-in-When-clause-judged
arm-returns-in_ok-condition-in-When-clause-judged t c w ss is even room =
    let p = arm_parts _ _ _ _ w ss (sym c.in-When.ensures) is in
    answered _ _ _ _ (goes _ _ _ (ap (λ (Δ : Env). judge_condition Δ w) (sym c.env.ensures.means) ∙ c.in_ok-condition-in-When.ensures w p.0)) (c.sequence.ensures.judged ss p.1 even (when_room _ _ w ss room))

pub body-returns-in_default : goal.body-returns-in_default
body-returns-in_default t c = record {
  length = refl;
  frame = refl;
  front = refl;
  judged = λ b is even room.
      let x = body_node _ _ b is in
      absurd (c.in_default.not-Body x.0 x.1 (c.node_at.ensures ∙ x.2));
}

pub body-returns-then-statements-k-clause-judged : goal.body-returns-then-statements-k-clause-judged
body-returns-then-statements-k-clause-judged t c b is even room =
    let p = body_parts _ _ _ _ b (sym c.in-Body.ensures) is in
    absurd (omega (arith, p.2, c.if-statements-k.true))

pub body-returns-in_err-local_decs-clause-judged : goal.body-returns-in_err-local_decs-clause-judged
body-returns-in_err-local_decs-clause-judged t c b is even room =
    let Γ = frame_means c.args.frame.now c.args.names.now in
    let x = facts c.args.frame.now.text in
    let p = body_parts _ _ _ _ b (sym c.in-Body.ensures) is in
    let r = subst (λ (d : Body). Room InBody d c.args.frame.now.count (length c.args.names.now)) p.5 room in
    let fits = locals_fit x p.0 p.1 c.args.frame.now.count (length c.args.names.now) r in
    let o = opened c.args.frame.now p.0 c.args.names.now c.declare_locals-opened.new.names c.declare_locals-opened.result (c.declare_locals-opened.ensures.behind x c.args.frame.now.takes.now p.0 p.3) fits even in
    passed _ _ c.from_residual.result c.from_residual.ensures.1 (ap (judge_body Γ) p.5 ∙ stops _ _ _ (ap (λ (Δ : Env). judge_local_decs Δ p.0) (sym o.1) ∙ c.in_err-local_decs.ensures p.0 p.3 o.0))

pub body-returns-clause-front : goal.body-returns-clause-front
body-returns-clause-front t c =
    let low = c.declare_locals-opened.ensures.grows in
    sym (take-take c.args.frame.now.count c.declare_locals-opened.result c.sequence.new.names low) ∙ ap (λ (ds : List _). take c.args.frame.now.count ds) c.sequence.ensures.front ∙ take-take c.args.frame.now.count c.declare_locals-opened.result c.declare_locals-opened.new.names low ∙ c.declare_locals-opened.ensures.front

pub body-returns-clause-judged : goal.body-returns-clause-judged
body-returns-clause-judged t c b is even room =
    let Γ = frame_means c.args.frame.now c.args.names.now in
    let x = facts c.args.frame.now.text in
    let p = body_parts _ _ _ _ b (sym c.in-Body.ensures) is in
    let r = subst (λ (d : Body). Room InBody d c.args.frame.now.count (length c.args.names.now)) p.5 room in
    let fits = locals_fit x p.0 p.1 c.args.frame.now.count (length c.args.names.now) r in
    let behind = c.declare_locals-opened.ensures.behind x c.args.frame.now.takes.now p.0 p.3 in
    let o = opened c.args.frame.now p.0 c.args.names.now c.declare_locals-opened.new.names c.declare_locals-opened.result behind fits even in
    let further = subst (λ (n : ℕ). Room InSequence p.1 n (length c.args.names.now)) (sym (behind fits).0) (sequence_room x p.0 p.1 c.args.frame.now.count (length c.args.names.now) r) in
    let inner = subst (λ (n : ℕ). Room InSequence p.1 c.declare_locals-opened.result n) (sym c.declare_locals-opened.ensures.length) further in
    answered _ _ _ _ (ap (judge_body Γ) p.5 ∙ goes _ _ _ (ap (λ (Δ : Env). judge_local_decs Δ p.0) (sym o.1) ∙ c.in_ok-local_decs.ensures p.0 p.3 o.0)) (subst (λ (Δ : Env). Answers (λ u. tt) c.sequence.result (judge_sequence Δ p.1)) o.2 (c.sequence.ensures.judged p.1 p.4 refl inner))

pub branches-loop-entry-init : goal.branches-loop-entry-init
branches-loop-entry-init t c = record {
  frame = refl;
  same = refl;
  front = refl;
  judged = λ ws is even room.
      let n = length c.args.names.now in
      let e = sym c.entries-entry-items.ensures.listed ∙ ap left (sym c.into_iter-entry-iterator.ensures.into_iter_gives) in
      let all = stand_armed c.args.k c.args.frame.now.count n c.args.nodes.now ws is room in
      (of_arms ws, subst (λ (ks : List ℕ). Stand (Armed c.args.k c.args.frame.now.count n) (of_arms ws) c.args.nodes.now ks) e all, sym (arms_judged (frame_means c.args.frame.now c.args.names.now) ws));
}

pub branches-loop-entry-preserved-then-entry-k : goal.branches-loop-entry-preserved-then-entry-k
branches-loop-entry-preserved-then-entry-k t c = record {
  frame = c.arm.ensures.frame ∙ c.loop-entry.invariant.frame;
  same = c.arm.ensures.length ∙ c.loop-entry.invariant.same;
  front = subst (λ (f : Frame). take f.count c.arm.new.names ≡ take f.count c.loop-entry.names) c.loop-entry.invariant.frame c.arm.ensures.front ∙ c.loop-entry.invariant.front;
  judged = λ ws is even room.
      let Γ = frame_means c.args.frame.now c.args.names.now in
      let step : Arms → Result (Unit {0}) Refusal → Result (Unit {0}) Refusal = λ w r. both (judge_arms Γ w) r in
      let Is = Armed c.args.k c.args.frame.now.count (length c.args.names.now) in
      let on = going_on step Is c.args.nodes.now (left c.loop-entry.entry-iterator) c.in-Some.entry (left c.next.new.self) c.loop-entry.rest (judge_arms Γ ws) c.in-Some.ensures.steps (c.loop-entry.invariant.judged ws is even room) in
      let inner = subst (λ (n : ℕ). Room InArms on.0 c.args.frame.now.count n) (sym c.loop-entry.invariant.same) on.1.1 in
      let one : Arms → Frame → Type 0 = λ w f. f.ready ≡ f.count → Room InArms w f.count (length c.loop-entry.names) → Answers (λ u. tt) c.arm.result (judge_arms (frame_means f c.loop-entry.names) w) in
      let there = any_arm (λ w. one w c.args.frame.now) c.args.nodes.now c.in-Some.entry on.0 on.1.0.1 (λ w ss at. subst (one (when w ss)) c.loop-entry.invariant.frame (c.arm.ensures.judged w ss at)) even inner in
      let a = subst (λ (Δ : Env). Answers (λ u. tt) c.arm.result (judge_arms Δ on.0)) (same_frame c.args.frame.now c.loop-entry.names c.args.names.now c.loop-entry.invariant.front) there in
      subst (λ (b : Result (Unit {0}) Refusal). Going step Is c.args.nodes.now (left c.next.new.self) b (judge_arms Γ ws)) (stepped _ _ _ _ a c.and-rest.ensures) on.2;
}

pub branches-loop-entry-preserved : goal.branches-loop-entry-preserved
branches-loop-entry-preserved t c = record {
  frame = c.loop-entry.invariant.frame;
  same = c.loop-entry.invariant.same;
  front = c.loop-entry.invariant.front;
  judged = λ ws is even room.
      let Γ = frame_means c.args.frame.now c.args.names.now in
      let step : Arms → Result (Unit {0}) Refusal → Result (Unit {0}) Refusal = λ w r. both (judge_arms Γ w) r in
      let on = going_on step (Armed c.args.k c.args.frame.now.count (length c.args.names.now)) c.args.nodes.now (left c.loop-entry.entry-iterator) c.in-Some.entry (left c.next.new.self) c.loop-entry.rest (judge_arms Γ ws) c.in-Some.ensures.steps (c.loop-entry.invariant.judged ws is even room) in
      absurd (omega (arith, on.1.0.0, c.if-entry-k.false));
}

pub branches-returns-clause-judged : goal.branches-returns-clause-judged
branches-returns-clause-judged t c ws is even room =
    let Γ = frame_means c.args.frame.now c.args.names.now in
    let step : Arms → Result (Unit {0}) Refusal → Result (Unit {0}) Refusal = λ w r. both (judge_arms Γ w) r in
    answers_same _ _ (going_out step (Armed c.args.k c.args.frame.now.count (length c.args.names.now)) c.args.nodes.now (left c.loop-entry.entry-iterator) c.loop-entry.rest (judge_arms Γ ws) c.in-None.ensures.steps.0 (c.loop-entry.invariant.judged ws is even room))

pub sequence-loop-entry-init : goal.sequence-loop-entry-init
sequence-loop-entry-init t c = record {
  frame = refl;
  same = refl;
  front = refl;
  judged = λ ss is even room.
      let n = length c.args.names.now in
      let e = sym c.entries-entry-items.ensures.listed ∙ ap left (sym c.into_iter-entry-iterator.ensures.into_iter_gives) in
      let all = stand_entered c.args.k c.args.frame.now.count n c.args.nodes.now ss is room in
      (of_sequence ss, subst (λ (ks : List ℕ). Stand (Entered c.args.k c.args.frame.now.count n) (of_sequence ss) c.args.nodes.now ks) e all, sym (sequence_judged (frame_means c.args.frame.now c.args.names.now) ss));
}

pub sequence-loop-entry-preserved-then-entry-k : goal.sequence-loop-entry-preserved-then-entry-k
sequence-loop-entry-preserved-then-entry-k t c = record {
  frame = c.statement.ensures.frame ∙ c.loop-entry.invariant.frame;
  same = c.statement.ensures.length ∙ c.loop-entry.invariant.same;
  front = subst (λ (f : Frame). take f.count c.statement.new.names ≡ take f.count c.loop-entry.names) c.loop-entry.invariant.frame c.statement.ensures.front ∙ c.loop-entry.invariant.front;
  judged = λ ss is even room.
      let Γ = frame_means c.args.frame.now c.args.names.now in
      let step : Statement → Result (Unit {0}) Refusal → Result (Unit {0}) Refusal = λ s r. both (judge_statement Γ s) r in
      let Is = Entered c.args.k c.args.frame.now.count (length c.args.names.now) in
      let on = going_on step Is c.args.nodes.now (left c.loop-entry.entry-iterator) c.in-Some.entry (left c.next.new.self) c.loop-entry.rest (judge_sequence Γ ss) c.in-Some.ensures.steps (c.loop-entry.invariant.judged ss is even room) in
      let inner = subst (λ (n : ℕ). Room InStatement on.0 c.args.frame.now.count n) (sym c.loop-entry.invariant.same) on.1.1 in
      let there = subst (λ (f : Frame). f.ready ≡ f.count → Room InStatement on.0 f.count (length c.loop-entry.names) → Answers (λ u. tt) c.statement.result (judge_statement (frame_means f c.loop-entry.names) on.0)) c.loop-entry.invariant.frame (c.statement.ensures.judged on.0 on.1.0.1) even inner in
      let a = subst (λ (Δ : Env). Answers (λ u. tt) c.statement.result (judge_statement Δ on.0)) (same_frame c.args.frame.now c.loop-entry.names c.args.names.now c.loop-entry.invariant.front) there in
      subst (λ (b : Result (Unit {0}) Refusal). Going step Is c.args.nodes.now (left c.next.new.self) b (judge_sequence Γ ss)) (stepped _ _ _ _ a c.and-rest.ensures) on.2;
}

pub sequence-loop-entry-preserved : goal.sequence-loop-entry-preserved
sequence-loop-entry-preserved t c = record {
  frame = c.loop-entry.invariant.frame;
  same = c.loop-entry.invariant.same;
  front = c.loop-entry.invariant.front;
  judged = λ ss is even room.
      let Γ = frame_means c.args.frame.now c.args.names.now in
      let step : Statement → Result (Unit {0}) Refusal → Result (Unit {0}) Refusal = λ s r. both (judge_statement Γ s) r in
      let on = going_on step (Entered c.args.k c.args.frame.now.count (length c.args.names.now)) c.args.nodes.now (left c.loop-entry.entry-iterator) c.in-Some.entry (left c.next.new.self) c.loop-entry.rest (judge_sequence Γ ss) c.in-Some.ensures.steps (c.loop-entry.invariant.judged ss is even room) in
      absurd (omega (arith, on.1.0.0, c.if-entry-k.false));
}

pub sequence-returns-clause-judged : goal.sequence-returns-clause-judged
sequence-returns-clause-judged t c ss is even room =
    let Γ = frame_means c.args.frame.now c.args.names.now in
    let step : Statement → Result (Unit {0}) Refusal → Result (Unit {0}) Refusal = λ s r. both (judge_statement Γ s) r in
    answers_same _ _ (going_out step (Entered c.args.k c.args.frame.now.count (length c.args.names.now)) c.args.nodes.now (left c.loop-entry.entry-iterator) c.loop-entry.rest (judge_sequence Γ ss) c.in-None.ensures.steps.0 (c.loop-entry.invariant.judged ss is even room))

pub statement-returns-in-Block-clause-judged : goal.statement-returns-in-Block-clause-judged
statement-returns-in-Block-clause-judged t c s is even room =
    let x = stated c.args.nodes.now c.args.k c.args.frame.now.count (length c.args.names.now) s _ (sym c.in-Block.ensures) is room in
    answered _ _ _ _ (ap (judge_statement (frame_means c.args.frame.now c.args.names.now)) x.4) (c.body.ensures.judged x.0 x.2 even x.3)

pub statement-returns-in-Branch-clause-judged : goal.statement-returns-in-Branch-clause-judged
statement-returns-in-Branch-clause-judged t c s is even room =
    let x = stated c.args.nodes.now c.args.k c.args.frame.now.count (length c.args.names.now) s _ (sym c.in-Branch.ensures) is room in
    answered _ _ _ _ (ap (judge_statement (frame_means c.args.frame.now c.args.names.now)) x.4) (c.branches.ensures.judged x.0 x.2 even x.3)

pub statement-returns-in_err-branches-in-BranchElse-clause-judged : goal.statement-returns-in_err-branches-in-BranchElse-clause-judged
statement-returns-in_err-branches-in-BranchElse-clause-judged t c s is even room =
    let x = stated c.args.nodes.now c.args.k c.args.frame.now.count (length c.args.names.now) s _ (sym c.in-BranchElse.ensures) is room in
    passed _ _ c.from_residual.result c.from_residual.ensures.1 (ap (judge_statement (frame_means c.args.frame.now c.args.names.now)) x.8 ∙ stops _ _ _ (c.in_err-branches-in-BranchElse.ensures.judged x.0 x.4 even x.6))

pub statement-returns-in_ok-branches-in-BranchElse-clause-judged : goal.statement-returns-in_ok-branches-in-BranchElse-clause-judged
statement-returns-in_ok-branches-in-BranchElse-clause-judged t c s is even room =
    let x = stated c.args.nodes.now c.args.k c.args.frame.now.count (length c.args.names.now) s _ (sym c.in-BranchElse.ensures) is room in
    let inner = subst (λ (n : ℕ). Room InSequence x.1 c.args.frame.now.count n) (sym c.branches-in-BranchElse.ensures.length) x.7 in
    let there = subst (λ (f : Frame). f.ready ≡ f.count → Room InSequence x.1 f.count (length c.branches-in-BranchElse.new.names) → Answers (λ u. tt) c.sequence.result (judge_sequence (frame_means f c.branches-in-BranchElse.new.names) x.1)) c.branches-in-BranchElse.ensures.frame (c.sequence.ensures.judged x.1 x.5) even inner in
    answered _ _ _ _ (ap (judge_statement (frame_means c.args.frame.now c.args.names.now)) x.8 ∙ goes _ _ _ (c.in_ok-branches-in-BranchElse.ensures.judged x.0 x.4 even x.6)) (subst (λ (Δ : Env). Answers (λ u. tt) c.sequence.result (judge_sequence Δ x.1)) (same_frame c.args.frame.now c.branches-in-BranchElse.new.names c.args.names.now c.branches-in-BranchElse.ensures.front) there)

pub statement-returns-in_err-into-in-Repeat-clause-judged : goal.statement-returns-in_err-into-in-Repeat-clause-judged
statement-returns-in_err-into-in-Repeat-clause-judged t c s is even room =
    let x = stated c.args.nodes.now c.args.k c.args.frame.now.count (length c.args.names.now) s _ (sym c.in-Repeat.ensures) is room in
    passed _ _ c.from_residual-in_err-into-in-Repeat.result c.from_residual-in_err-into-in-Repeat.ensures.1 (ap (judge_statement (frame_means c.args.frame.now c.args.names.now)) x.6 ∙ stops _ _ _ (ap (λ (Δ : Env). judge_into (Some INT) c.in-Repeat.count (judge Δ x.0) (spot x.0)) (sym c.env.ensures.means) ∙ c.in_err-into-in-Repeat.ensures _ x.0 x.3))

pub statement-returns-in_ok-into-in-Repeat-clause-judged : goal.statement-returns-in_ok-into-in-Repeat-clause-judged
statement-returns-in_ok-into-in-Repeat-clause-judged t c s is even room =
    let x = stated c.args.nodes.now c.args.k c.args.frame.now.count (length c.args.names.now) s _ (sym c.in-Repeat.ensures) is room in
    answered _ _ _ _ (ap (judge_statement (frame_means c.args.frame.now c.args.names.now)) x.6 ∙ goes _ _ _ (ap (λ (Δ : Env). judge_into (Some INT) c.in-Repeat.count (judge Δ x.0) (spot x.0)) (sym c.env.ensures.means) ∙ c.in_ok-into-in-Repeat.ensures _ x.0 x.3)) (c.body-in-Repeat.ensures.judged x.1 x.4 even x.5)

pub statement-returns-in_err-condition-in-Loop-clause-judged : goal.statement-returns-in_err-condition-in-Loop-clause-judged
statement-returns-in_err-condition-in-Loop-clause-judged t c s is even room =
    let x = stated c.args.nodes.now c.args.k c.args.frame.now.count (length c.args.names.now) s _ (sym c.in-Loop.ensures) is room in
    passed _ _ c.from_residual-in_err-condition-in-Loop.result c.from_residual-in_err-condition-in-Loop.ensures.1 (ap (judge_statement (frame_means c.args.frame.now c.args.names.now)) x.6 ∙ stops _ _ _ (ap (λ (Δ : Env). judge_condition Δ x.0) (sym c.env-in-Loop.ensures.means) ∙ c.in_err-condition-in-Loop.ensures x.0 x.3))

pub statement-returns-in_ok-condition-in-Loop-clause-judged : goal.statement-returns-in_ok-condition-in-Loop-clause-judged
statement-returns-in_ok-condition-in-Loop-clause-judged t c s is even room =
    let x = stated c.args.nodes.now c.args.k c.args.frame.now.count (length c.args.names.now) s _ (sym c.in-Loop.ensures) is room in
    answered _ _ _ _ (ap (judge_statement (frame_means c.args.frame.now c.args.names.now)) x.6 ∙ goes _ _ _ (ap (λ (Δ : Env). judge_condition Δ x.0) (sym c.env-in-Loop.ensures.means) ∙ c.in_ok-condition-in-Loop.ensures x.0 x.3)) (c.sequence-in-Loop.ensures.judged x.1 x.4 even x.5)
