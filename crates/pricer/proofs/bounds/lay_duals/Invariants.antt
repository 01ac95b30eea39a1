use Rattle.std.proofs.Common.{◌≡◌, ◌<◌, ◌≤◌, ℕ, pos}
use Rattle.std.specs.Prelude.{slice_index_or}
use Rattle.pricer.specs.Prices.{at}
use Rattle.pricer.proofs.bounds.lay_duals.Given as goal

abbrev pub invariant-loop-i : goal.invariant-loop-i
invariant-loop-i l = record {
  below : (k : ℕ) → k < l.i → at l.price k ≡ slice_index_or l.city k (pos 0);
  above : (k : ℕ) → l.i ≤ k → at l.price k ≡ pos 0;
}
