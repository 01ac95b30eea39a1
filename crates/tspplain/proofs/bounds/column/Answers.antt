use Rattle.std.proofs.Common.{arith}
use Rattle.std.proofs.lemmas.Int.{ints}
use Rattle.tspdef.specs.Bounds.{pair_term, reduced_cost}
use Rattle.tspplain.specs.Values.{instance_of, path_of, closing_of}
use Rattle.tspplain.proofs.Steps.{sum_below_more}
use Rattle.tspplain.proofs.bounds.column.Goals as goal

pub loop-u-preserved : goal.loop-u-preserved
loop-u-preserved c =
    let more = sum_below_more (λ u. pair_term (path_of c.args.path.now) (reduced_cost (instance_of c.args.instance.now) (path_of c.args.path.now) (closing_of c.args.instance.now.n c.args.closing.now)) u c.args.v) c.loop-u.u in
    record { so_far = omega (arith, ints); low = omega (arith, ints); high = omega (arith, ints) }
