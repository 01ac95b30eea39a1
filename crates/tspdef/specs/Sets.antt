-- Sets of cities, as strictly rising lists below the number of cities n.
use Rattle.std.specs.Prelude.{◌≡◌, ℕ, ◌+◌, ◌<◌, ◌≤◌, Bool, false, ◌==◌, ◌||◌, not, List, [], ◌∷◌, length}

-- a is one of xs
abbrev pub has : List ℕ → ℕ → Bool
has [] a = false
has (x ∷ xs) a = (x == a) || has xs a

-- strictly rising, from m on and below n
abbrev pub RisesFrom : ℕ → ℕ → List ℕ → Type 0
RisesFrom n m [] = Unit {0}
RisesFrom n m (c ∷ cs) = ((m ≤ c) × (c < n)) × RisesFrom n (c + 1) cs

-- the list is a set of cities below n
abbrev pub IsSet : ℕ → List ℕ → Type 0
IsSet n s = RisesFrom n 0 s

-- neither empty nor all n cities
pub record IsProper (n : ℕ) (s : List ℕ) : Type 0 where
  pub set : IsSet n s
  pub some : 0 < length s
  pub not_all : length s < n

-- two sets have a city in common
abbrev pub meet : List ℕ → List ℕ → Bool
meet [] t = false
meet (c ∷ cs) t = has t c || meet cs t

-- s has a city outside t
abbrev pub leaves : List ℕ → List ℕ → Bool
leaves [] t = false
leaves (c ∷ cs) t = not (has t c) || leaves cs t

-- s meets one of the sets
abbrev pub meets_any : List ℕ → List (List ℕ) → Bool
meets_any s [] = false
meets_any s (t ∷ ts) = meet s t || meets_any s ts

-- no two of the sets meet
abbrev pub AreDisjoint : List (List ℕ) → Type 0
AreDisjoint [] = Unit {0}
AreDisjoint (t ∷ ts) = (meets_any t ts ≡ false) × AreDisjoint ts

-- each of n cities is in exactly one of the two sets
abbrev pub IsComplement : ℕ → List ℕ → List ℕ → Type 0
IsComplement n s t = (c : ℕ) → c < n → has t c ≡ not (has s c)
