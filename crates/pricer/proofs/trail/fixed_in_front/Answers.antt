use Rattle.std.proofs.Common.{◌≡◌, drop, List, sym, ap, ◌∙◌, arith}
use Rattle.std.proofs.lemmas.List.{drop_all}
use Rattle.branchx.specs.declared.cond.Cond.{Cond}
use Rattle.branchx.specs.Cond as cond
use Rattle.pricer.specs.Trails.{fixed_in_front}
use Rattle.pricer.proofs.TrailLemmas.{front_done, front_more}
use Rattle.pricer.proofs.trail.fixed_in_front.Goals as goal

pub returns-then-not-is_fixed : goal.returns-then-not-is_fixed
returns-then-not-is_fixed c =
    front_done c.args.conditions.now c.loop-condition.condition-index c.loop-condition.count _ c.condition-item.result c.loop-condition-test.true c.condition-item.is
    (sym c.is_fixed.ensures ∙ c.if-not-is_fixed.true) c.loop-condition.invariant.left

pub loop-condition-preserved : goal.loop-condition-preserved
loop-condition-preserved c =
    let more = front_more c.args.conditions.now c.loop-condition.condition-index c.loop-condition.count _ c.condition-item.result c.loop-condition-test.true c.condition-item.is
    (sym c.is_fixed.ensures ∙ c.if-not-is_fixed.false) c.loop-condition.invariant.left in
    record { all = omega arith; left = more }

pub returns : goal.returns
returns c =
    let xs = c.args.conditions.now in
    let i = c.loop-condition.condition-index in
    let rest : fixed_in_front (cond.conditions_of (drop i xs)) ≡ 0 = ap (λ (ys : List Cond). fixed_in_front (cond.conditions_of ys)) (drop_all i xs (omega arith)) in
    let left = c.loop-condition.invariant.left in
    omega (arith, rest, left)
