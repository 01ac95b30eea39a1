-- Groups on the way, with the degree of each.
use Rattle.std.specs.Prelude.{◌≡◌, ◌≢◌, ℕ, ◌<◌, ◌≤◌, ◌⊎◌, false, List, length, slice_index}
use Rattle.tspdef.specs.Sets.{has, IsProper}
use Rattle.cyc.specs.CitySet.{Members}
use Rattle.cyc.specs.declared.frac.Entry.{Entry}
use Rattle.maxflow.specs.declared.shrinking.Merging.{Merging}
use Rattle.maxflow.specs.Crossings.{crossing}
use Rattle.maxflow.specs.Shrinking.{in_group, IsFirst, AreTied, IsShrinking}

-- the degree of each group, at its least city
abbrev pub AreDegrees : ℕ → List Entry → List ℕ → List ℕ → Type 0
AreDegrees n es groups degrees = (a : ℕ) → IsFirst n groups a → slice_index degrees a ≡ crossing es (in_group groups a)

-- of two groups of which the one is before the city, and neither is that of but, none are tied
abbrev pub AreUntiedBelow : ℕ → List Entry → List ℕ → ℕ → ℕ → Type 0
AreUntiedBelow n es groups city but = (a b : ℕ) → IsFirst n groups a → IsFirst n groups b → a < b → a < city → a ≢ but → b ≢ but → ¬ AreTied es groups a b

-- two tied groups, of which a's is one
pub record IsTie (n : ℕ) (es : List Entry) (groups : List ℕ) (a one other : ℕ) : Type 0 where
  pub first : IsFirst n groups one
  pub second : IsFirst n groups other
  pub before : one < other
  pub tied : AreTied es groups one other
  pub either : (a ≡ one) ⊎ (a ≡ other)

-- the group is proper and lighter than the old set, and is kept
pub record IsGroupKept (n : ℕ) (groups : List ℕ) (a weight less : ℕ) (s : Members) : Type 0 where
  pub cities : s.n ≡ n
  pub proper : IsProper n s.cities
  pub members : (k : ℕ) → k < n → has s.cities k ≡ in_group groups a k
  pub value : less ≡ weight

-- the old set is kept
pub record IsSetKept (best less : ℕ) (set now : Members) : Type 0 where
  pub value : less ≡ best
  pub same : now ≡ set

-- the lighter of a set and a group that lacks a city
pub record IsLighterOf (n : ℕ) (groups : List ℕ) (a weight best : ℕ) (set : Members) (less : ℕ) (now : Members) : Type 0 where
  pub kept : IsGroupKept n groups a weight less now ⊎ IsSetKept best less set now
  pub no_more : less ≤ best
  pub light : (k : ℕ) → k < n → in_group groups a k ≡ false → less ≤ weight

-- no proper set was lost, and the degrees are those of the groups
pub record IsMerging (n : ℕ) (es : List Entry) (m : Merging) : Type 0 where
  pub shrinking : IsShrinking n es m.shrunk
  pub size : length m.degrees.items ≡ n
  pub degrees : AreDegrees n es m.shrunk.groups.items m.degrees.items
