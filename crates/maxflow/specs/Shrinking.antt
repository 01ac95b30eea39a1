-- Shrinking: groups of cities that are merged and no least set is lost (Padberg and Rinaldi 1990).
use Rattle.std.specs.Prelude.{◌≡◌, ◌≢◌, ℕ, ◌*◌, ◌<◌, ◌≤◌, ◌⊎◌, Bool, true, false, cond, ◌==◌, List, [], ◌∷◌, length, slice_index}
use Rattle.std.specs.List.{AllByRecursion}
use Rattle.tspdef.specs.Sets.{has, IsProper}
use Rattle.cyc.specs.declared.frac.Entry.{Entry}
use Rattle.cyc.specs.CitySet.{Members}
use Rattle.cyc.specs.Frac.{Values}
use Rattle.maxflow.specs.declared.shrinking.Shrunk.{Shrunk}
use Rattle.maxflow.specs.Crossings.{crossing, between}

-- each of n cities has the least city of its group
pub record AreGroups (n : ℕ) (groups : List ℕ) : Type 0 where
  pub all : length groups ≡ n
  pub least : (k : ℕ) → k < n → slice_index groups k ≤ k
  pub own : (k : ℕ) → k < n → slice_index groups (slice_index groups k) ≡ slice_index groups k

-- a city is in the group whose least city is a
abbrev pub in_group : List ℕ → ℕ → ℕ → Bool
in_group groups a k = slice_index groups k == a

-- a city is the least of its group
pub record IsFirst (n : ℕ) (groups : List ℕ) (a : ℕ) : Type 0 where
  pub below : a < n
  pub own : slice_index groups a ≡ a

-- twice the weight between two groups is no less than the degree of either
pub record AreTied (es : List Entry) (groups : List ℕ) (a b : ℕ) : Type 0 where
  pub one : crossing es (in_group groups a) ≤ 2 * between es (in_group groups a) (in_group groups b)
  pub other : crossing es (in_group groups b) ≤ 2 * between es (in_group groups a) (in_group groups b)

-- no two groups are tied
abbrev pub AreUntied : ℕ → List Entry → List ℕ → Type 0
AreUntied n es groups = (a b : ℕ) → IsFirst n groups a → IsFirst n groups b → a < b → ¬ AreTied es groups a b

-- some of n cities are in the set, and some are not
pub record IsSome (n : ℕ) (p : ℕ → Bool) : Type 0 where
  pub inside : ℕ
  pub in_below : inside < n
  pub holds : p inside ≡ true
  pub outside : ℕ
  pub out_below : outside < n
  pub lacks : p outside ≡ false

-- a proper union of groups is crossed by no more than the set
pub record IsMatched (n : ℕ) (es : List Entry) (groups : List ℕ) (p : ℕ → Bool) : Type 0 where
  pub union : ℕ → Bool
  pub some : IsSome n union
  pub whole : (k : ℕ) → k < n → union k ≡ union (slice_index groups k)
  pub no_more : crossing es union ≤ crossing es p

-- each proper set is crossed by the weight at least, or by no less than a proper union of groups
abbrev pub IsCovered : ℕ → List Entry → List ℕ → ℕ → Type 0
IsCovered n es groups best = (p : ℕ → Bool) → IsSome n p → (best ≤ crossing es p) ⊎ IsMatched n es groups p

-- a proper set, and what crosses it
pub record IsWeighed (n : ℕ) (es : List Entry) (weight : ℕ) (s : Members) : Type 0 where
  pub cities : s.n ≡ n
  pub proper : IsProper n s.cities
  pub crossed : crossing es (has s.cities) ≡ weight

-- the least city of a group, once b's group is merged into a's
abbrev pub merged_to : ℕ → ℕ → ℕ → ℕ
merged_to a b k = cond (k == b) a k

-- two tied groups of the old are one group of the new, which has the least city of both
pub record IsMerge (n : ℕ) (es : List Entry) (old now : List ℕ) : Type 0 where
  pub one : ℕ
  pub other : ℕ
  pub first : IsFirst n old one
  pub second : IsFirst n old other
  pub before : one < other
  pub tied : AreTied es old one other
  pub size : length now ≡ n
  pub each : (k : ℕ) → k < n → slice_index now k ≡ merged_to one other (slice_index old k)

-- the groups were reached from single cities by merges of two tied groups, through these, the latest before the others
abbrev pub AreReached : ℕ → List Entry → List ℕ → List (List ℕ) → Type 0
AreReached n es groups [] = (k : ℕ) → k < n → slice_index groups k ≡ k
AreReached n es groups (old ∷ older) = IsMerge n es old groups × AreReached n es old older

-- no group that lacks a city is crossed by less
abbrev pub IsNoHeavier : ℕ → List Entry → ℕ → List ℕ → Type 0
IsNoHeavier n es weight groups = (a k : ℕ) → IsFirst n groups a → k < n → in_group groups a k ≡ false → weight ≤ crossing es (in_group groups a)

-- the set is one of the groups
pub record IsGroup (n : ℕ) (s : Members) (groups : List ℕ) : Type 0 where
  pub least : ℕ
  pub first : IsFirst n groups least
  pub members : (k : ℕ) → k < n → has s.cities k ≡ in_group groups least k

-- the set is a group at one of these times
abbrev pub WasGroup : ℕ → Members → List (List ℕ) → Type 0
WasGroup n s [] = ⊥
WasGroup n s (groups ∷ older) = IsGroup n s groups ⊎ WasGroup n s older

-- How the groups came about, and the least of all that were a group at some time and lack a city: the set is one of them.
pub record IsLeastOfRun (n : ℕ) (es : List Entry) (s : Shrunk) : Type 0 where
  pub earlier : List (List ℕ)
  pub reached : AreReached n es s.groups.items earlier
  pub least : AllByRecursion (IsNoHeavier n es s.best) (s.groups.items ∷ earlier)
  pub was : WasGroup n s.set (s.groups.items ∷ earlier)

-- Groups on the way: the set is crossed by no more than each city and each of two groups or more, and no proper set was lost.
pub record IsShrinking (n : ℕ) (es : List Entry) (s : Shrunk) : Type 0 where
  pub groups : AreGroups n s.groups.items
  pub best : IsWeighed n es s.best s.set
  pub run : IsLeastOfRun n es s
  pub cities : (k : ℕ) → k < n → s.best ≤ crossing es (λ j. j == k)
  pub light : (a b : ℕ) → IsFirst n s.groups.items a → IsFirst n s.groups.items b → a ≢ b → s.best ≤ crossing es (in_group s.groups.items a)
  pub covered : IsCovered n es s.groups.items s.best

-- No two groups are tied, and the least of all proper sets is the set or a union of groups.
pub record IsShrunk (x : Values) (s : Shrunk) : Type 0 where
  pub shrunk : IsShrinking x.n x.entries s
  pub untied : AreUntied x.n x.entries s.groups.items
