-- Quotients of whole numbers, rounded to whole numbers, and the size of a count.
use Rattle.std.specs.Prelude.{◌+◌, ◌^◌, ℤ, pos, negsuc, neg_ℤ, ◌+ℤ◌, ◌-ℤ◌, ◌*ℤ◌, ◌≤ℤ◌, ◌<ℤ◌}

-- how many counts are one
abbrev pub one : ℤ
one = pos (2 ^ 32)

-- q is n / d rounded down: q ≤ n / d < q + 1. No number is n / 0.
abbrev pub IsFloor : ℤ → ℤ → ℤ → Type 0
IsFloor n (pos d) q = ((q *ℤ pos d) ≤ℤ n) × (n <ℤ (q *ℤ pos d +ℤ pos d))
IsFloor n (negsuc d) q = ((q *ℤ pos (d + 1)) ≤ℤ neg_ℤ n) × (neg_ℤ n <ℤ (q *ℤ pos (d + 1) +ℤ pos (d + 1)))

-- q is n / d rounded up: q - 1 < n / d ≤ q
abbrev pub IsCeiling : ℤ → ℤ → ℤ → Type 0
IsCeiling n (pos d) q = ((q *ℤ pos d -ℤ pos d) <ℤ n) × (n ≤ℤ (q *ℤ pos d))
IsCeiling n (negsuc d) q = ((q *ℤ pos (d + 1) -ℤ pos (d + 1)) <ℤ neg_ℤ n) × (neg_ℤ n ≤ℤ (q *ℤ pos (d + 1)))

-- of size at most 2^62
abbrev pub InSize : ℤ → Type 0
InSize z = (neg_ℤ (pos (2 ^ 62)) ≤ℤ z) × (z ≤ℤ pos (2 ^ 62))
