use Rattle.lpcheck.proofs.Bounds.{duals_within}
use Rattle.lpcheck.proofs.answer.judge.Goals as goal

pub reduced_costs-requires-clause-sizes : goal.reduced_costs-requires-clause-sizes
reduced_costs-requires-clause-sizes c = duals_within c.args.rows.now c.args.ys.now c.requires.duals
