-- Distances of points with whole coordinates, by the rules of TSPLIB 95 (Reinelt 1991, "Distance functions"),
-- each said as a least whole number, so that no root is taken and nothing is rounded.
use Rattle.std.specs.Prelude.{◌≡◌, ℕ, zero, suc, ◌+◌, ◌*◌, ◌<◌, max, Bool, true, false, nat_le, if◌then◌else◌, ℤ, ◌-ℤ◌, nat_abs}

-- EUC_2D, CEIL_2D, ATT, MAN_2D, MAX_2D
pub data Rule : Type 0 where
  euclidean : Rule
  rounded_up : Rule
  pseudo_euclidean : Rule
  manhattan : Rule
  maximum : Rule

-- k is no less than the distance of points whose squared Euclidean distance is s: EUC_2D rounds the root
-- to the nearest whole number (k + 1/2 is never a root), CEIL_2D rounds it up, ATT rounds up the root of s / 10
abbrev pub is_enough : Rule → ℕ → ℕ → Bool
is_enough euclidean s k = nat_le s (k * k + k)
is_enough rounded_up s k = nat_le s (k * k)
is_enough pseudo_euclidean s k = nat_le s (10 * (k * k))
is_enough manhattan s k = nat_le s k
is_enough maximum s k = nat_le s k

-- the least number below n that passes, or n where none does
unfoldable pub least : (ℕ → Bool) → ℕ → ℕ
least passes zero = 0
least passes (suc n) = (let k = least passes n in if passes k then k else suc n)

-- the least number that is enough for the squared distance s; s itself always is
abbrev pub root : Rule → ℕ → ℕ
root rule s = least (is_enough rule s) s

-- the squared Euclidean distance of two points that are so far apart along each axis
abbrev pub squared : ℕ → ℕ → ℕ
squared across along = across * across + along * along

-- the distance of two points that are so far apart along each axis
abbrev pub distance_apart : Rule → ℕ → ℕ → ℕ
distance_apart euclidean across along = root euclidean (squared across along)
distance_apart rounded_up across along = root rounded_up (squared across along)
distance_apart pseudo_euclidean across along = root pseudo_euclidean (squared across along)
distance_apart manhattan across along = across + along
distance_apart maximum across along = max across along

-- the distance of two points, each an x and a y
abbrev pub distance : Rule → ℤ × ℤ → ℤ × ℤ → ℕ
distance rule a b = distance_apart rule (nat_abs (a.0 -ℤ b.0)) (nat_abs (a.1 -ℤ b.1))

-- k passes, and nothing below it does
pub record IsLeast (passes : ℕ → Bool) (k : ℕ) : Type 0 where
  pub is_enough : passes k ≡ true
  pub none_below : (j : ℕ) → j < k → passes j ≡ false
