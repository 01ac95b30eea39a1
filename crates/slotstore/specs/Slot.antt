-- What the bytes of one slot say: a gate, a number, a length of eight bytes, and the body.
use Rattle.std.specs.Prelude.{ℕ, ◌+◌, ◌^◌, ◌==◌, ◌&&◌, nat_le, nat_lt, Bool, List, ◌∷◌, ◌++◌, length, take, drop, slice_index}
use Rattle.byteorder.specs.Endian.{big_number, big_bytes}

-- the gate; 1 is open, and any other value is closed
abbrev pub gate : List ℕ → ℕ
gate bytes = slice_index bytes 0

-- the number
abbrev pub number : List ℕ → ℕ
number bytes = slice_index bytes 1

-- the length of the body, the highest byte first
abbrev pub body_length : List ℕ → ℕ
body_length bytes = big_number 8 (drop 2 bytes)

-- the slot is whole: its gate is open, its number is 0, 1 or 2, and it holds as many bytes as it says, up to a place
-- that can be named
abbrev pub is_valid : List ℕ → Bool
is_valid bytes = gate bytes == 1 && nat_le (number bytes) 2 && nat_lt (10 + body_length bytes) (2 ^ 64)
    && nat_le (10 + body_length bytes) (length bytes)

-- the body; bytes past it mean nothing
abbrev pub body_of : List ℕ → List ℕ
body_of bytes = take (body_length bytes) (drop 10 bytes)

-- the number and the length of a body, as they stand in front of it
abbrev pub label : ℕ → List ℕ → List ℕ
label number body = number ∷ big_bytes 8 (length body)

-- a slot that is whole with a number and a body
abbrev pub whole_slot : ℕ → List ℕ → List ℕ
whole_slot number body = 1 ∷ (label number body ++ body)
