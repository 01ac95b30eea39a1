use Rattle.std.proofs.Common.{ℕ, ◌<◌, slice_index_or}
use Rattle.cyc.specs.CitySet.{Members}
use Rattle.tspdef.specs.Sets.{IsSet}
use Rattle.cutform.proofs.comb.are_sets.Given as goal

abbrev pub invariant-loop-tooth : goal.invariant-loop-tooth
invariant-loop-tooth l = (k : ℕ) (d : Members) → k < l.tooth-index → IsSet l.n (slice_index_or l.teeth k d).cities
