use Rattle.std.proofs.Common.{◌≡◌, ℤ, to_z, of_z, w64, sym, subst, arith}
use Rattle.std.proofs.lemmas.Int.{ints}
use Rattle.lpcheck.specs.declared.row.Row.{Row}
use Rattle.lpcheck.specs.Rests.{IsDual}
use Rattle.simplex_cases.proofs.DualLemmas.{duals_push}
use Rattle.simplex_cases.proofs.settling.zeros.Goals as goal

pub loop-at-preserved : goal.loop-at-preserved
loop-at-preserved c =
    let y : ℤ = to_z w64 (of_z w64 c.none.result) in
    let same : y ≡ c.none.result = omega (arith, ints) in
    duals_push c.args.rows.now c.loop-at.at c.index-rows-at.result c.loop-at.ys.items c.push.new.self.items y c.loop-at-test.true c.index-rows-at.is c.loop-at.invariant c.in_ok-push.ensures.items
    (subst (IsDual c.index-rows-at.result.sense) (sym same) (subst (λ (q : Row). IsDual q.sense c.none.result) (sym c.index-rows-at.is) c.none.ensures))
