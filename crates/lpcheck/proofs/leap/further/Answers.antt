use Rattle.std.proofs.Common.{◌≡◌, ℤ, to_z, of_z, w64, sym, subst, arith}
use Rattle.std.proofs.lemmas.Int.{ints}
use Rattle.lpcheck.specs.Rests.{IsDual}
use Rattle.lpcheck.specs.declared.row.Row.{Row}
use Rattle.lpcheck.proofs.Sweeps.{duals_step}
use Rattle.lpcheck.proofs.leap.further.Goals as goal

pub loop-at-preserved : goal.loop-at-preserved
loop-at-preserved c =
    let row = c.index-rows-at.result in
    let next : ℤ = to_z w64 (of_z w64 c.within.result) in
    let same : next ≡ c.within.result = omega (arith, ints) in
    let own : IsDual row.sense c.within.result = subst (λ (q : Row). IsDual q.sense c.within.result) (sym c.index-rows-at.is) c.within.ensures in
    duals_step c.args.rows.now c.loop-at.next.items c.loop-at.at row next c.loop-at-test.true c.index-rows-at.is
    c.loop-at.invariant (subst (IsDual row.sense) (sym same) own)
