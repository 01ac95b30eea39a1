-- What the proofs say of lists that are read as cycles, by places.
use Rattle.std.proofs.Common.{◌≡◌, ℕ, ◌+◌, ◌-◌, ◌<◌, List, ◌++◌, length, slice_index}
use Rattle.std.specs.Prelude.{reverse}
use Rattle.tspdef.specs.Tours.{IsTurned}
use Rattle.flips.specs.Cycles.{IsFlipped}
use Rattle.flips.specs.Places.{wrap}

-- the same cycle, read the same way, from another of its places
pub record IsTurn (xs ys : List ℕ) : Type 0 where
  pub front : List ℕ
  pub back : List ℕ
  pub whole : xs ≡ front ++ back
  pub turned : ys ≡ back ++ front

pub is_turned : (xs ys : List ℕ) → IsTurn xs ys → IsTurned xs ys
is_turned xs ys t = (t.front, t.back, t.whole, t.turned)

pub turn_of : (xs ys : List ℕ) → IsTurned xs ys → IsTurn xs ys
turn_of xs ys (front, back, whole, turned) = record { front = front; back = back; whole = whole; turned = turned }

-- the cycle reads from b on a part up to c and then a rest; the part is turned round
pub record Flips (old new : List ℕ) (b c : ℕ) : Type 0 where
  pub part : List ℕ
  pub rest : List ℕ
  pub some : 0 < length part
  pub first : slice_index part 0 ≡ b
  pub last : slice_index part (length part - 1) ≡ c
  pub before : IsTurn old (part ++ rest)
  pub after : IsTurn new (reverse part ++ rest)

pub is_flipped : (old new : List ℕ) (b c : ℕ) → Flips old new b c → IsFlipped old new b c
is_flipped old new b c w = record {
  path = w.part;
  rest = w.rest;
  some = w.some;
  begins = w.first;
  ends = w.last;
  before = is_turned old (w.part ++ w.rest) w.before;
  after = is_turned new (reverse w.part ++ w.rest) w.after;
}

pub flips_of : (old new : List ℕ) (b c : ℕ) → IsFlipped old new b c → Flips old new b c
flips_of old new b c w = record {
  part = w.path;
  rest = w.rest;
  some = w.some;
  first = w.begins;
  last = w.ends;
  before = turn_of old (w.path ++ w.rest) w.before;
  after = turn_of new (reverse w.path ++ w.rest) w.after;
}

-- b comes next after a, at a place
pub record Succeeds (xs : List ℕ) (a b : ℕ) : Type 0 where
  pub place : ℕ
  pub inside : place < length xs
  pub here : slice_index xs place ≡ a
  pub there : slice_index xs (wrap (length xs) (place + 1)) ≡ b

-- steps ab and ce of the cycle become ac and be: the part from b up to c is turned round
pub record Exchanges (old new : List ℕ) (a b c e : ℕ) : Type 0 where
  pub part : List ℕ
  pub rest : List ℕ
  pub part_some : 0 < length part
  pub rest_some : 0 < length rest
  pub part_first : slice_index part 0 ≡ b
  pub part_last : slice_index part (length part - 1) ≡ c
  pub rest_first : slice_index rest 0 ≡ e
  pub rest_last : slice_index rest (length rest - 1) ≡ a
  pub before : IsTurn old (part ++ rest)
  pub after : IsTurn new (reverse part ++ rest)

-- no city twice
abbrev pub Apart : List ℕ → Type 0
Apart xs = (i j : ℕ) → i < length xs → j < length xs → slice_index xs i ≡ slice_index xs j → i ≡ j
