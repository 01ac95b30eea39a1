use Rattle.std.proofs.Common.{ℕ, ◌+◌}
use Rattle.std.proofs.lemmas.List.Sums.{sum_by_more, sum_by-take-le}
use Rattle.tspdef.specs.Cuts.{pair_set}
use Rattle.cutpool.specs.Nears.{set_weight}
use Rattle.cutpool.proofs.CrossingLemmas.{none_step, left_step}
use Rattle.cutpool.proofs.violated.without_pairs.Goals as goal

pub returns-in-None : goal.returns-in-None
returns-in-None c =
    let f : ℕ × ℕ → ℕ = λ p. set_weight c.args.rows.now (pair_set p) in
    let pairs = c.args.pairs.now in
    let i = c.loop-pair.pair-index in
    none_step _ _ _ _ _ _ (sum_by_more f pairs i (0, 0) c.loop-pair-test.true) (sum_by-take-le f pairs (i + 1)) c.in-None.ensures c.loop-pair.invariant

pub loop-pair-preserved : goal.loop-pair-preserved
loop-pair-preserved c =
    let f : ℕ × ℕ → ℕ = λ p. set_weight c.args.rows.now (pair_set p) in
    left_step _ _ _ _ _ _ (sum_by_more f c.args.pairs.now c.loop-pair.pair-index (0, 0) c.loop-pair-test.true) c.in-Some.ensures c.loop-pair.invariant
