use Rattle.std.proofs.Common.{arith, rules, ◌≡◌, true, IsTrue}
use Rattle.lpcheck.proofs.Sweeps.{sweep_more}
use Rattle.lpcheck.proofs.rest.sweep.Goals as goal

pub loop-at-preserved : goal.loop-at-preserved
loop-at-preserved c =
    sweep_more c.args.rows.now c.args.cols.now c.args.ys.now c.loop-at.ys c.improve_row.new.ys c.loop-at.rs c.improve_row.new.rs c.loop-at.any c.in_ok-any.field-0 c.loop-at.at c.loop-at.invariant
    c.in_ok-any.ensures.duals c.in_ok-any.ensures.costs
    (λ (yes : c.in_ok-any.field-0 ≡ true). let told : IsTrue c.in_ok-any.field-0 = search rules in c.in_ok-any.ensures.better told)
    c.in_ok-any.ensures.same c.in_ok-any.ensures.rests

pub returns-clause-rests : goal.returns-clause-rests
returns-clause-rests c = λ no i none inside. c.loop-at.invariant.rests no i none (omega (arith, c.loop-at-test.false, inside))
