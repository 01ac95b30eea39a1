-- Groups of cities by number, and what was found among their unions.
use Rattle.std.specs.Prelude.{◌≡◌, ℕ, ◌<◌, ◌≤◌, ◌⊎◌, Bool, true, not, List, [], ◌∷◌, ◌++◌, length, slice_index, pos}
use Rattle.std.specs.List.{All}
use Rattle.tspdef.specs.Sets.{has, IsSet, IsProper}
use Rattle.cyc.specs.CitySet.{Members}
use Rattle.cyc.specs.Frac.{Values}
use Rattle.maxflow.specs.Crossings.{crossing_weight, crossing}
use Rattle.maxflow.specs.Shrinking.{IsSome}
use Rattle.sepsub.specs.declared.LeastSet.{LeastSet}
use Rattle.sepsub.specs.declared.Swept.{Swept}
use Rattle.sepsub.specs.declared.groups.Numbered.{Numbered}
use Rattle.sepsub.specs.LeastSets.{IsViolated}

-- the least city of the group of a city's number is that of its group
pub record IsNumberOf (groups : List ℕ) (g : Numbered) (k : ℕ) : Type 0 where
  pub below : slice_index g.numbers.items k < length g.firsts.items
  pub first : slice_index g.firsts.items (slice_index g.numbers.items k) ≡ slice_index groups k

-- the least city of a group is of this group
pub record IsFirstOf (n : ℕ) (g : Numbered) (j : ℕ) : Type 0 where
  pub below : slice_index g.firsts.items j < n
  pub number : slice_index g.numbers.items (slice_index g.firsts.items j) ≡ j

-- each of n cities has the number of its group, and each number is that of a group
pub record IsNumbered (n : ℕ) (groups : List ℕ) (g : Numbered) : Type 0 where
  pub size : length g.numbers.items ≡ n
  pub few : length g.firsts.items ≤ n
  pub each : (k : ℕ) → k < n → IsNumberOf groups g k
  pub firsts : (j : ℕ) → j < length g.firsts.items → IsFirstOf n g j

-- the city is in a group before it
pub record IsJoined (old : Numbered) (group : ℕ) (g : Numbered) : Type 0 where
  pub numbers : g.numbers.items ≡ old.numbers.items ++ slice_index old.numbers.items group ∷ []
  pub firsts : g.firsts.items ≡ old.firsts.items

-- the city is the first of its group
pub record IsAlone (old : Numbered) (k : ℕ) (g : Numbered) : Type 0 where
  pub numbers : g.numbers.items ≡ old.numbers.items ++ length old.firsts.items ∷ []
  pub firsts : g.firsts.items ≡ old.firsts.items ++ k ∷ []

-- one city more
abbrev pub IsWithCity : Numbered → ℕ → ℕ → Numbered → Type 0
IsWithCity old k group g = ((group < k) × IsJoined old group g) ⊎ ((k ≤ group) × IsAlone old k g)

-- the set or its complement, whichever holds city 0
pub record IsTurned (side s : Members) : Type 0 where
  pub cities : s.n ≡ side.n
  pub proper : IsProper side.n s.cities
  pub home : has s.cities 0 ≡ true
  pub either : ((k : ℕ) → k < side.n → has s.cities k ≡ has side.cities k) ⊎ ((k : ℕ) → k < side.n → has s.cities k ≡ not (has side.cities k))

-- a proper set with city 0 that is crossed by exactly the weight, and light sets, of which there are some where that is light
pub record IsCandidate (x : Values) (s : Swept) : Type 0 where
  pub cities : s.least.set.n ≡ x.n
  pub proper : IsProper x.n s.least.set.cities
  pub home : has s.least.set.cities 0 ≡ true
  pub crossed : crossing_weight x (has s.least.set.cities) ≡ pos s.least.weight
  pub sets : All (IsViolated x) s.sets.items
  pub some : s.least.weight < 2096128 → 0 < length s.sets.items

-- no proper union of groups is crossed by less
abbrev pub IsLeastUnion : Values → List ℕ → ℕ → Type 0
IsLeastUnion x groups weight = (q : ℕ → Bool) → IsSome x.n q → ((k : ℕ) → k < x.n → q k ≡ q (slice_index groups k)) → weight ≤ crossing x.entries q

-- the set has the cities of the groups of the side
pub record IsMapped (n : ℕ) (numbers : List ℕ) (side s : Members) : Type 0 where
  pub cities : s.n ≡ n
  pub set : IsSet n s.cities
  pub members : (k : ℕ) → k < n → has s.cities k ≡ has side.cities (slice_index numbers k)

-- the network has a city for each group, and each union of groups is crossed by the same in both
pub record IsGroupNetwork (x : Values) (g : Numbered) (w : Values) : Type 0 where
  pub cities : w.n ≡ length g.firsts.items
  pub firsts : (j : ℕ) → j < length g.firsts.items → IsFirstOf x.n g j
  pub weights : (p : ℕ → Bool) → crossing_weight x (λ k. p (slice_index g.numbers.items k)) ≡ pos (crossing w.entries p)
