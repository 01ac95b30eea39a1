-- Connected components of the graph of pairs whose value lies between two limits.
use Rattle.std.specs.Prelude.{◌≡◌, ◌≢◌, ℕ, ◌<◌, ◌≤◌, Bool, true, false, ◌||◌, List, [], ◌∷◌, length, slice_index_or}
use Rattle.std.specs.List.{AllByRecursion}
use Rattle.tspdef.specs.Sets.{has, IsSet}
use Rattle.cyc.specs.CitySet.{Members}
use Rattle.cyc.specs.Frac.{Values, value_of}

-- two different cities, of a value strictly between the limits
pub record IsLinked (x : Values) (low high u v : ℕ) : Type 0 where
  pub u_below : u < x.n
  pub v_below : v < x.n
  pub apart : u ≢ v
  pub above : low < value_of x.entries u v
  pub below : value_of x.entries u v < high

-- from u through these cities, each linked to the one before it, to v at last
abbrev pub IsWalk : Values → ℕ → ℕ → ℕ → List ℕ → ℕ → Type 0
IsWalk x low high u [] v = u ≡ v
IsWalk x low high u (c ∷ cs) v = IsLinked x low high u c × IsWalk x low high c cs v

-- a walk of linked cities leads from u to v
abbrev pub Joined : Values → ℕ → ℕ → ℕ → ℕ → Type 0
Joined x low high u v = (cities : List ℕ) × IsWalk x low high u cities v

-- two cities or more, any two of them joined, with all that is linked to one of them
pub record IsComponent (x : Values) (low high : ℕ) (s : Members) : Type 0 where
  pub cities : s.n ≡ x.n
  pub set : IsSet x.n s.cities
  pub some : 2 ≤ length s.cities
  pub joined : (u v : ℕ) → has s.cities u ≡ true → has s.cities v ≡ true → Joined x low high u v
  pub closed : (u v : ℕ) → has s.cities u ≡ true → IsLinked x low high u v → has s.cities v ≡ true

-- the least city of a set
abbrev pub first_city : Members → ℕ
first_city s = slice_index_or s.cities 0 0

-- each set has a greater first city than those before it
abbrev pub DoFirstsRise : List Members → Type 0
DoFirstsRise [] = Unit {0}
DoFirstsRise (s ∷ ss) = AllByRecursion (λ t. first_city s < first_city t) ss × DoFirstsRise ss

-- a city is in one of the sets
abbrev pub is_in_any : List Members → ℕ → Bool
is_in_any [] city = false
is_in_any (s ∷ ss) city = has s.cities city || is_in_any ss city

-- all components, in order of their least city
pub record AreComponents (x : Values) (low high : ℕ) (sets : List Members) : Type 0 where
  pub each : AllByRecursion (IsComponent x low high) sets
  pub rising : DoFirstsRise sets
  pub all : (u v : ℕ) → IsLinked x low high u v → is_in_any sets u ≡ true
