use Rattle.std.proofs.Common.{◌≡◌, ℕ, ◌+◌, add-one, arith}
use Rattle.std.specs.Prelude.{ℤ, pos, neg_ℤ, ◌+ℤ◌}
use Rattle.std.proofs.lemmas.Int.{ints}
use Rattle.tspdef.specs.Sums.{sum_below, sum_pairs}

-- one more term of a sum
pub sum_below_more : (f : ℕ → ℤ) (k : ℕ) → sum_below f (k + 1) ≡ sum_below f k +ℤ f k
sum_below_more f k = rw add-one

pub sum_pairs_more : (f : ℕ → ℕ → ℤ) (k : ℕ) → sum_pairs f (k + 1) ≡ sum_pairs f k +ℤ sum_below (λ u. f u k) k
sum_pairs_more f k = rw add-one

-- a sum of losses
pub losses_more : (f : ℕ → ℤ) (k t l : ℕ) → neg_ℤ (pos t) ≡ sum_below f k → neg_ℤ (pos l) ≡ f k → neg_ℤ (pos (t + l)) ≡ sum_below f (k + 1)
losses_more f k t l h e = let more = sum_below_more f k in omega (arith, ints)

pub row_losses_more : (f : ℕ → ℕ → ℤ) (k t l : ℕ) → neg_ℤ (pos t) ≡ sum_pairs f k → neg_ℤ (pos l) ≡ sum_below (λ u. f u k) k → neg_ℤ (pos (t + l)) ≡ sum_pairs f (k + 1)
row_losses_more f k t l h e = let more = sum_pairs_more f k in omega (arith, ints)
