-- Number tokens and what they are worth.
--
-- A number token is an optional sign, digits with at most one point among, before or after them (at least one
-- digit), and optionally `e` or `E`, an optional sign and at least one digit.
use Rattle.std.specs.Prelude.{◌≡◌, ◌<◌, ◌≤◌, ℕ, ◌+◌, ◌*◌, ◌/◌, ◌%◌, ◌^◌, Bool, false, ◌||◌, ◌&&◌, ◌==◌, nat_lt, nat_le, if◌then◌else◌, List, [], ◌∷◌, ◌++◌, length, drop, take_while, ℤ, pos, neg_ℤ, nat_abs, Option, Some, None, Result, Ok, Err}
use Rattle.std.specs.List.{prefix_len}
use Rattle.std.specs.Char.{is_ascii_digit}
use Rattle.std.specs.Fmt.{signed_decimal}
use Rattle.std.specs.Str.Parse.{digits_value}
use Rattle.tsplex.specs.declared.number.NumberFault.{NumberFault}
use Rattle.tsplex.specs.declared.number.NumberFault.TheVariants.{NotANumber, Fractional, OutOfRange}

-- ---- how a number is spelt

-- the bytes `+`, `-`, `.`, `e` and `E`
abbrev pub plus : ℕ
plus = 43

abbrev pub minus : ℕ
minus = 45

abbrev pub point : ℕ
point = 46

abbrev pub lower_e : ℕ
lower_e = 101

abbrev pub upper_e : ℕ
upper_e = 69

-- these bytes begin with this one
abbrev pub first_is : ℕ → List ℕ → Bool
first_is byte [] = false
first_is byte (b ∷ bs) = b == byte

-- the digits that some bytes begin with
abbrev pub digits : List ℕ → List ℕ
digits bytes = take_while is_ascii_digit bytes

-- what stands behind these digits
abbrev pub behind_digits : List ℕ → List ℕ
behind_digits bytes = drop (prefix_len is_ascii_digit bytes) bytes

-- what stands behind a sign, if there is one
unfoldable pub behind_sign : List ℕ → List ℕ
behind_sign bytes = (if first_is minus bytes || first_is plus bytes then drop 1 bytes else bytes)

-- the digits before the point, and what stands behind them
abbrev pub before_point : List ℕ → List ℕ
before_point token = digits (behind_sign token)

abbrev pub from_point : List ℕ → List ℕ
from_point token = behind_digits (behind_sign token)

-- the digits behind the point, and what stands behind them, where some bytes begin with a point
abbrev pub behind_point : List ℕ → List ℕ
behind_point bytes = (if first_is point bytes then digits (drop 1 bytes) else [])

abbrev pub from_power : List ℕ → List ℕ
from_power bytes = (if first_is point bytes then behind_digits (drop 1 bytes) else bytes)

-- the digits of a token's number
abbrev pub token_digits : List ℕ → List ℕ
token_digits token = before_point token ++ behind_point (from_point token)

-- The power of ten that `e`, a sign and digits say, as its positive and its negative part, of which one is 0.
abbrev pub power_of : Bool → List ℕ → Option (ℕ × ℕ)
power_of negative ds = (if length (digits ds) == 0 then None else if length (behind_digits ds) == 0 then Some (if negative then (0, digits_value 10 (digits ds)) else (digits_value 10 (digits ds), 0)) else None)

-- the power that ends a token: none is 0
unfoldable pub power : List ℕ → Option (ℕ × ℕ)
power bytes = (if length bytes == 0 then Some (0, 0) else if first_is lower_e bytes || first_is upper_e bytes then power_of (first_is minus (drop 1 bytes)) (behind_sign (drop 1 bytes)) else None)

-- ---- what it is worth

-- plus or minus digits * 10 ^ up / 10 ^ down
pub record Number : Type 0 where
  pub negative : Bool
  pub digits : ℕ
  pub up : ℕ
  pub down : ℕ

abbrev pub number_with : List ℕ → Option (ℕ × ℕ) → Option Number
number_with token None = None
number_with token (Some p) = Some (record { negative = first_is minus token; digits = digits_value 10 (token_digits token); up = p.0; down = p.1 + length (behind_point (from_point token)) })

-- the number that a token spells
unfoldable pub number : List ℕ → Option Number
number token = (if length (token_digits token) == 0 then None else number_with token (power (from_power (from_point token))))

abbrev pub signed_size : Bool → ℕ → ℤ
signed_size negative size = (if negative then neg_ℤ (pos size) else pos size)

abbrev pub sized : Bool → ℕ → ℕ → Result ℤ NumberFault
sized negative most size = (if nat_le size most then Ok (signed_size negative size) else Err OutOfRange)

-- a number, where it is whole and of size at most `most`
unfoldable pub whole_number : ℕ → Number → Result ℤ NumberFault
whole_number most x = (if (x.digits * 10 ^ x.up) % 10 ^ x.down == 0 then sized x.negative most (x.digits * 10 ^ x.up / 10 ^ x.down) else Err Fractional)

abbrev pub whole_if : ℕ → Option Number → Result ℤ NumberFault
whole_if most None = Err NotANumber
whole_if most (Some x) = whole_number most x

-- the whole number of size at most `most` that a token spells
unfoldable pub whole_of : List ℕ → ℕ → Result ℤ NumberFault
whole_of token most = whole_if most (number token)

-- the number of at most `most` that digits alone spell
unfoldable pub natural_of : List ℕ → ℕ → Option ℕ
natural_of token most = (if nat_lt 0 (length (digits token)) && length (behind_digits token) == 0 && nat_le (digits_value 10 (digits token)) most then Some (digits_value 10 (digits token)) else None)

-- ---- laws

-- A whole number is read from its decimal digits, with a minus before them where it is negative.
abbrev pub PlainNumbersAreRead : Type 0
PlainNumbersAreRead = (z : ℤ) (most : ℕ) → nat_abs z ≤ most → most < 2 ^ 32 → whole_of (signed_decimal z) most ≡ Ok z
