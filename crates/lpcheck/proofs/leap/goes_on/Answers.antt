use Rattle.std.proofs.Common.{sym, subst}
use Rattle.lpcheck.specs.Rests.{AreDuals}
use Rattle.lpcheck.proofs.Bounds.{duals_within}
use Rattle.lpcheck.proofs.leap.goes_on.Goals as goal

pub reduced_costs-requires-clause-sizes : goal.reduced_costs-requires-clause-sizes
reduced_costs-requires-clause-sizes c =
    duals_within c.args.rows.now c.deref.result.now (subst (AreDuals c.args.rows.now) (sym c.deref.ensures.value) c.in_ok-next.ensures)
