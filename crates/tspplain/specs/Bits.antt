-- Sets of fewer than 32 cities as bits: a city is in the set where its bit is 1.
use Rattle.std.specs.Prelude.{◌≡◌, ℕ, ◌^◌, Bool, true, false, cond, nat_lt, ◌==◌, ◌&&◌, not, bit_and}
use Rattle.std.specs.Int.{bit_at}

-- the set of one city; no set has a city from 32 on
abbrev pub bit_of : ℕ → ℕ
bit_of city = cond (nat_lt city 32) (2 ^ city) 0

-- a city is in the set
abbrev pub in_bits : ℕ → ℕ → Bool
in_bits set city = bit_at set city == 1

-- a set has some cities of another, and not all
abbrev pub has_part : ℕ → ℕ → Bool
has_part set other = not (bit_and set other == 0) && not (bit_and set other == other)

-- the same by cities
pub record HasPart (set other : ℕ) : Type 0 where
  pub some : (city : ℕ) × ((in_bits set city ≡ true) × (in_bits other city ≡ true))
  pub not_all : (city : ℕ) × ((in_bits set city ≡ false) × (in_bits other city ≡ true))
