-- Sums over cities and over pairs, in whole numbers.
use Rattle.std.specs.Prelude.{ℕ, zero, suc, ℤ, pos, ◌+ℤ◌}

-- f 0 + .. + f (n - 1)
abbrev pub sum_below : (ℕ → ℤ) → ℕ → ℤ
sum_below f zero = pos 0
sum_below f (suc n) = sum_below f n +ℤ f n

-- the sum of f u v over all pairs u < v < n
abbrev pub sum_pairs : (ℕ → ℕ → ℤ) → ℕ → ℤ
sum_pairs f zero = pos 0
sum_pairs f (suc v) = sum_pairs f v +ℤ sum_below (λ u. f u v) v
