-- Rounds: walks from city 0 along the neighbours of the cities, home again.
use Rattle.std.specs.Prelude.{◌≡◌, ℕ, cond, ◌<◌, ◌==◌, List, [], ◌∷◌, length, min}
use Rattle.pathtour.specs.Neighbours.{two_at}

-- the neighbour that is not u
abbrev pub other_of : ℕ × ℕ → ℕ → ℕ
other_of e u = cond (e.0 == u) e.1 e.0

-- A walk that came from a, and goes on to b and through the list, each time to the neighbour that it did not come
-- from, is then about to step to city 0.
abbrev pub GoesHome : List (ℕ × ℕ) → ℕ → ℕ → List ℕ → Type 0
GoesHome pairs a b [] = b ≡ 0
GoesHome pairs a b (c ∷ cs) = (c ≡ b) × GoesHome pairs b (other_of (two_at pairs b) a) cs

-- a walk from city 0, by its lower neighbour, that comes home
abbrev pub IsRound : List (ℕ × ℕ) → List ℕ → Type 0
IsRound pairs [] = ⊥
IsRound pairs (c ∷ cs) = (c ≡ 0) × GoesHome pairs 0 (min (two_at pairs 0).0 (two_at pairs 0).1) cs

-- each neighbour is a city
abbrev pub AreWithin : List (ℕ × ℕ) → Type 0
AreWithin pairs = (v : ℕ) → v < length pairs → ((two_at pairs v).0 < length pairs) × ((two_at pairs v).1 < length pairs)
