-- The cities that the used pairs of a path join to each city.
use Rattle.std.specs.Prelude.{◌≡◌, ◌≢◌, ℕ, ◌<◌, Bool, true, false, cond, ◌==◌, ◌||◌, List, length, slice_index_or}
use Rattle.tspdef.specs.Paths.{Condition, fixed, absent, present, two, four, is_present, IsPair}
use Rattle.pathtour.specs.declared.neighbours.Joined.{Joined}
use Rattle.pathtour.specs.declared.neighbours.Joined.TheVariants.{Nothing, One, Two, Many}

-- the path joins v to exactly these two cities
pub record AreTwo (n : ℕ) (path : List Condition) (v : ℕ) (e : ℕ × ℕ) : Type 0 where
  pub below : (e.0 < n) × (e.1 < n)
  pub apart : e.0 ≢ e.1
  pub used : (w : ℕ) → is_present path v w ≡ (e.0 == w) || (e.1 == w)

-- the two neighbours of a city
abbrev pub two_at : List (ℕ × ℕ) → ℕ → ℕ × ℕ
two_at pairs v = slice_index_or pairs v (0, 0)

-- the two neighbours of each city
pub record AreNeighbours (n : ℕ) (path : List Condition) (pairs : List (ℕ × ℕ)) : Type 0 where
  pub long : length pairs ≡ n
  pub each : (v : ℕ) → v < n → AreTwo n path v (two_at pairs v)

-- the path does not join some city to exactly two others
abbrev pub LacksTwo : ℕ → List Condition → Type 0
LacksTwo n path = (v : ℕ) × (v < n) × ((e : ℕ × ℕ) → ¬ AreTwo n path v e)

-- three different cities that the path joins to v
pub record AreThree (path : List Condition) (v a b c : ℕ) : Type 0 where
  pub first : is_present path v a ≡ true
  pub second : is_present path v b ≡ true
  pub third : is_present path v c ≡ true
  pub apart : (a ≢ b) × (a ≢ c) × (b ≢ c)

-- what is kept of the cities that the path joins to v
abbrev pub IsJoined : List Condition → ℕ → Joined → Type 0
IsJoined path v Nothing = (w : ℕ) → is_present path v w ≡ false
IsJoined path v (One a) = (w : ℕ) → is_present path v w ≡ (a == w)
IsJoined path v (Two a b) = (a ≢ b) × ((w : ℕ) → is_present path v w ≡ (a == w) || (b == w))
IsJoined path v Many = (a : ℕ) × (b : ℕ) × (c : ℕ) × AreThree path v a b c

-- one more city
abbrev pub more : Joined → ℕ → Joined
more Nothing w = One w
more (One a) w = Two a w
more (Two a b) w = Many
more Many w = Many

-- what a condition adds at v
abbrev pub added : Condition → ℕ → Joined → Joined
added (fixed a b) v j = cond (a == v) (more j b) (cond (b == v) (more j a) j)
added (absent a b) v j = j
added (present a b) v j = cond (a == v) (more j b) (cond (b == v) (more j a) j)
added (two s) v j = j
added (four s) v j = j

abbrev pub joined_at : List Joined → ℕ → Joined
joined_at joined v = slice_index_or joined v Nothing

-- what is kept of the cities that the path joins to each of n
pub record AreJoined (n : ℕ) (path : List Condition) (joined : List Joined) : Type 0 where
  pub long : length joined ≡ n
  pub each : (v : ℕ) → v < n → IsJoined path v (joined_at joined v)

-- exactly two cities
abbrev pub is_two : Joined → Bool
is_two Nothing = false
is_two (One a) = false
is_two (Two a b) = true
is_two Many = false

abbrev pub two_of : ℕ × ℕ → Joined
two_of e = Two e.0 e.1

-- some city has not exactly two
abbrev pub HasOther : List Joined → Type 0
HasOther joined = (v : ℕ) × (v < length joined) × (is_two (joined_at joined v) ≡ false)

-- if the condition is on a pair, it is one of n cities, the lower city first
abbrev pub IsPairBelow : ℕ → Condition → Type 0
IsPairBelow n (fixed u v) = IsPair n u v
IsPairBelow n (absent u v) = IsPair n u v
IsPairBelow n (present u v) = IsPair n u v
IsPairBelow n (two s) = Unit {0}
IsPairBelow n (four s) = Unit {0}
