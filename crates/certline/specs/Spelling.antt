-- How the words of a line stand one behind the other.
use Rattle.std.specs.Prelude.{◌≡◌, ℕ, ◌-◌, ◌^◌, ◌<◌, Bool, true, false, ◌==◌, List, [], ◌∷◌, ◌++◌, drop, take_while, decimal, ℤ, pos, negsuc}
use Rattle.std.specs.List.{prefix_len}
use Rattle.std.specs.Char.{is_ascii_digit}

-- these bytes begin with this one
abbrev pub first_is : ℕ → List ℕ → Bool
first_is byte [] = false
first_is byte (b ∷ bs) = b == byte

-- the digits that some bytes begin with
abbrev pub digits : List ℕ → List ℕ
digits bytes = take_while is_ascii_digit bytes

-- what stands behind these digits
abbrev pub behind_digits : List ℕ → List ℕ
behind_digits bytes = drop (prefix_len is_ascii_digit bytes) bytes

-- the text ends, or goes on with a blank
abbrev pub EndsWord : List ℕ → Type 0
EndsWord [] = Unit {0}
EndsWord (b ∷ bs) = b ≡ 32

-- the word of a number of at most 19 digits, and then a rest
pub record BeginsWith (text : List ℕ) (n : ℕ) (rest : List ℕ) : Type 0 where
  pub said : text ≡ decimal n ++ rest
  pub small : n < 10 ^ 19
  pub ends : EndsWord rest

-- a blank, the word of such a number, and then a rest
pub record Spells (text : List ℕ) (n : ℕ) (rest : List ℕ) : Type 0 where
  pub said : text ≡ 32 ∷ decimal n ++ rest
  pub small : n < 10 ^ 19
  pub ends : EndsWord rest

-- the words of numbers, a blank before each
abbrev pub spaced : List ℕ → List ℕ
spaced [] = []
spaced (n ∷ ns) = 32 ∷ decimal n ++ spaced ns

-- the number that is not 0 with this sign and size
abbrev pub with_sign : Bool → ℕ → ℤ
with_sign true n = negsuc (n - 1)
with_sign false n = pos n
