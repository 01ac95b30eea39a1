-- For each city of a tour the one behind it.
use Rattle.std.specs.Prelude.{◌≡◌, ℕ, Bool, true, ◌&&◌, ◌||◌, ◌==◌, List, [], ◌∷◌, length, get_or}

-- the first of these cities, or the home city where there is none
abbrev pub first_or : ℕ → List ℕ → ℕ
first_or home [] = home
first_or home (c ∷ cs) = c

-- behind each of these cities in turn is the next, and behind the last the home city
abbrev pub Follow : ℕ → List ℕ → List ℕ → Type 0
Follow home followers [] = Unit {0}
Follow home followers (c ∷ cs) = (get_or followers c 0 ≡ first_or home cs) × Follow home followers cs

-- one for each city of the tour, and behind the last city comes the first
pub record AreFollowers (cities followers : List ℕ) : Type 0 where
  pub all : length followers ≡ length cities
  pub follow : Follow (first_or 0 cities) followers cities

-- one city is behind the other
abbrev pub is_joined : List ℕ → ℕ → ℕ → Bool
is_joined followers u v = (get_or followers u 0 == v) || (get_or followers v 0 == u)

abbrev pub all_joined : List ℕ → List (ℕ × ℕ) → Bool
all_joined followers [] = true
all_joined followers (p ∷ ps) = is_joined followers p.0 p.1 && all_joined followers ps
