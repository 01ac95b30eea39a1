use Rattle.std.proofs.Common.{◌≡◌, ◌<◌, ℕ, false, get_or}
use Rattle.tspinst.specs.Fixings.{is_pair_before}
use Rattle.tspinst.proofs.fixing.place_of.Given as goal

abbrev pub invariant-loop-place : goal.invariant-loop-place
invariant-loop-place l = (i : ℕ) → i < l.place → is_pair_before l.pair (get_or l.pairs i (0, 0)) ≡ false
