use Rattle.std.proofs.Common.{◌≡◌, ℕ, ◌-◌, ◌<◌, ◌≤◌, get_or}
use Rattle.certtests.proofs.sets.from_zero.Given as goal

abbrev pub invariant-loop-city : goal.invariant-loop-city
invariant-loop-city l = record {
  below : (k : ℕ) → k < l.city-index → get_or l.city-items k 0 ≡ get_or l.initial.city-items k 0 - 1;
  above : (k : ℕ) → l.city-index ≤ k → get_or l.city-items k 0 ≡ get_or l.initial.city-items k 0;
}
