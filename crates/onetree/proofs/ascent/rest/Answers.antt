use Rattle.std.proofs.Common.{arith, inl}
use Rattle.std.proofs.lemmas.Int.{ints}
use mir.Syntax.{w128}
use mir.Val.{to_z, of_z}
use Rattle.onetree.proofs.Changes.{not_true, is_true, reaches_at_rest}
use Rattle.onetree.proofs.ascent.rest.Goals as goal

pub returns-then-goal-best-clause-reached : goal.returns-then-goal-best-clause-reached
returns-then-goal-best-clause-reached c = let l = c.loop-round.invariant in inl (omega (arith, ints))

pub returns-then-not-branch-clause-reached : goal.returns-then-not-branch-clause-reached
returns-then-not-branch-clause-reached c =
    let no = not_true c.in_ok-raise.field-0 c.if-not-branch.true in
    let e = c.in_ok-raise.ensures in
    reaches_at_rest c.args.instance.now c.args.steps c.raise.new.self.duals.items c.args.base (to_z w128 (of_z w128 c.args.base)) c.raise.new.self.value c.loop-round.best.value c.loop-round.round
    (let w = c.requires.size in omega (arith, ints)) c.loop-round.invariant.low (e.same no) (e.rest no)

pub loop-round-preserved : goal.loop-round-preserved
loop-round-preserved c =
    let l = c.loop-round.invariant in
    let more = c.in_ok-raise.ensures.raised (is_true c.in_ok-raise.field-0 c.if-not-branch.false) in
    record { value = c.in_ok-raise.ensures.value; low = omega (arith, ints) }

pub returns-clause-reached : goal.returns-clause-reached
returns-clause-reached c = let l = c.loop-round.invariant in inl (omega (arith, ints))
