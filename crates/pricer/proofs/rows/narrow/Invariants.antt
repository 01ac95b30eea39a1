use Rattle.std.proofs.Common.{◌≡◌, ◌<◌, ◌^◌, ℕ}
use Rattle.pricer.specs.Sizes.{IsWithin}
use Rattle.pricer.specs.Prices.{at}
use Rattle.pricer.proofs.rows.narrow.Given as goal

abbrev pub invariant-loop-i : goal.invariant-loop-i
invariant-loop-i l = record {
  same : (k : ℕ) → k < l.i → at l.small k ≡ at l.numbers k;
  size : (k : ℕ) → k < l.i → IsWithin (2 ^ 50) (at l.small k);
}
