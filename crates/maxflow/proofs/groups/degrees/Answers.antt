use Rattle.std.proofs.Common.{◌==◌}
use Rattle.maxflow.proofs.CrossingLemmas.{crossing_small}
use Rattle.maxflow.proofs.ShrinkLemmas.{exact}
use Rattle.maxflow.proofs.groups.degrees.Goals as goal

pub returns-clause-values : goal.returns-clause-values
returns-clause-values c = λ k h.
    exact _ _ (c.in_ok-degrees.ensures.sums k h) (crossing_small c.args.n c.args.entries.now (λ j. j == k) c.requires.few c.requires.entries)
