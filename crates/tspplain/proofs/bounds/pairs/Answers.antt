use Rattle.std.proofs.Common.{arith}
use Rattle.std.proofs.lemmas.Int.{ints}
use Rattle.tspdef.specs.Bounds.{pair_term, reduced_cost}
use Rattle.tspplain.specs.Values.{instance_of, path_of, closing_of}
use Rattle.tspplain.proofs.Steps.{sum_pairs_more}
use Rattle.tspplain.proofs.bounds.pairs.Goals as goal

pub loop-v-preserved : goal.loop-v-preserved
loop-v-preserved c =
    let more = sum_pairs_more (pair_term (path_of c.args.path.now) (reduced_cost (instance_of c.args.instance.now) (path_of c.args.path.now) (closing_of c.args.instance.now.n c.args.closing.now))) c.loop-v.v in
    record { so_far = omega (arith, ints); low = omega (arith, ints); high = omega (arith, ints) }
