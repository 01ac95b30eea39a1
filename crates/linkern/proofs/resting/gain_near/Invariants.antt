use Rattle.std.proofs.Common.{◌<◌, ℕ, get_or}
use Rattle.linkern.specs.Exchanges.{IsPairAtRest}
use Rattle.linkern.proofs.resting.gain_near.Given as goal

abbrev pub invariant-loop-place : goal.invariant-loop-place
invariant-loop-place l = (k : ℕ) → k < l.place → IsPairAtRest l.instance l.tour l.a (get_or l.list k 0)
