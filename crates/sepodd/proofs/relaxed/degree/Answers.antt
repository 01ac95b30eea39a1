use Rattle.std.proofs.Common.{◌==◌}
use Rattle.maxflow.specs.Crossings.{crossing}
use Rattle.maxflow.proofs.CrossingLemmas.{crossing_small}
use Rattle.maxflow.proofs.ShrinkLemmas.{exact}
use Rattle.sepodd.proofs.relaxed.degree.Goals as goal

pub returns : goal.returns
returns c =
    exact c.sum_at-sum.result (crossing c.args.entries.now (λ j. j == c.args.k)) c.sum_at-sum.ensures
    (crossing_small c.args.n c.args.entries.now (λ j. j == c.args.k) c.requires.few c.requires.entries)
