use Rattle.std.proofs.Common.{◌≡◌, ℕ, ◌+◌, add-one}
use Rattle.std.specs.Prelude.{ℤ, ◌+ℤ◌}
use Rattle.tspdef.specs.Sums.{sum_below, sum_pairs}

-- one more term of a sum
pub sum_below_more : (f : ℕ → ℤ) (k : ℕ) → sum_below f (k + 1) ≡ sum_below f k +ℤ f k
sum_below_more f k = rw add-one

pub sum_pairs_more : (f : ℕ → ℕ → ℤ) (k : ℕ) → sum_pairs f (k + 1) ≡ sum_pairs f k +ℤ sum_below (λ u. f u k) k
sum_pairs_more f k = rw add-one
