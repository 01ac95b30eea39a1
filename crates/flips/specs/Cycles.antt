-- What contracts say of a tour that is read as a cycle in one direction.
use Rattle.std.specs.Prelude.{◌≡◌, ℕ, ◌+◌, ◌-◌, ◌<◌, Bool, true, false, cond, nat_le, ◌==◌, ◌&&◌, ◌||◌, List, [], ◌∷◌, ◌++◌, length, take, drop, reverse, slice_index}
use Rattle.tspdef.specs.Tours.{steps, IsTurned}

-- one of the steps goes from a to b
abbrev pub leads : List (ℕ × ℕ) → ℕ → ℕ → Bool
leads [] a b = false
leads (e ∷ es) a b = ((e.0 == a) && (e.1 == b)) || leads es a b

-- b comes next after a
abbrev pub Follows : List ℕ → ℕ → ℕ → Type 0
Follows tour a b = leads (steps tour) a b ≡ true

-- where a city stands in a list; the list's length where it does not
abbrev pub place_in : List ℕ → ℕ → ℕ
place_in [] a = 0
place_in (x ∷ xs) a = cond (x == a) 0 (place_in xs a + 1)

-- the tour from a city on
abbrev pub from_city : List ℕ → ℕ → List ℕ
from_city tour a = drop (place_in tour a) tour ++ take (place_in tour a) tour

-- a walk on from a meets b no later than c
abbrev pub is_between : List ℕ → ℕ → ℕ → ℕ → Bool
is_between tour a b c = nat_le (place_in (from_city tour a) b) (place_in (from_city tour a) c)

-- The old tour reads from b a path up to c and then a rest; the new one, in the same direction, reads that path the
-- other way round and then the rest.
pub record IsFlipped (old new : List ℕ) (b c : ℕ) : Type 0 where
  pub path : List ℕ
  pub rest : List ℕ
  pub some : 0 < length path
  pub begins : slice_index path 0 ≡ b
  pub ends : slice_index path (length path - 1) ≡ c
  pub before : IsTurned old (path ++ rest)
  pub after : IsTurned new (reverse path ++ rest)
