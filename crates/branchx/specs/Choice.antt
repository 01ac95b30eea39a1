-- By what a node is split: the first component of middle pairs that fits, or the undecided pair whose value is nearest to a half.
use Rattle.std.specs.Prelude.{◌≡◌, ℕ, ◌+◌, ◌-◌, ◌*◌, ◌^◌, ◌<◌, ◌≤◌, ◌⊎◌, false, List, [], ◌∷◌, length, pos, ◌≤ℤ◌}
use Rattle.std.specs.Int.{abs_diff}
use Rattle.std.specs.List.{AllByRecursion}
use Rattle.tspdef.specs.Sets.{has}
use Rattle.tspdef.specs.Bounds.{scale}
use Rattle.tspdef.specs.Paths.{Condition, is_decided, IsPair, IsNew}
use Rattle.cyc.specs.CitySet.{Members}
use Rattle.cyc.specs.Frac.{Values, value_of}
use Rattle.maxflow.specs.Crossings.{crossing_weight}
use Rattle.fracgraph.specs.Components.{AreComponents}
use Rattle.branchx.specs.declared.branch.Branch.{Branch}
use Rattle.branchx.specs.declared.branch.Branch.TheVariants.{Edge, Clique}

-- the components of the pairs whose value is more than 2^10 units from 0 and from one length
abbrev pub AreMiddle : Values → List Members → Type 0
AreMiddle x sets = AreComponents x (2 ^ 10) (scale - 2 ^ 10) sets

-- A set of three cities or more, with three or more outside, that is crossed by a quarter more than twice and a quarter less than four times at least, and new to the path.
pub record IsFit (x : Values) (path : List Condition) (s : Members) : Type 0 where
  pub some : 3 ≤ length s.cities
  pub others : length s.cities + 3 ≤ x.n
  pub more : pos (2 * scale + 2 ^ 18) ≤ℤ crossing_weight x (has s.cities)
  pub less : crossing_weight x (has s.cities) ≤ℤ pos (4 * scale - 2 ^ 18)
  pub new : IsNew x.n path s.cities

-- the set is the first of these that fits
abbrev pub IsFirstFit : Values → List Condition → List Members → Members → Type 0
IsFirstFit x path [] set = ⊥
IsFirstFit x path (s ∷ ss) set = (IsFit x path s × (set ≡ s)) ⊎ ((¬ IsFit x path s) × IsFirstFit x path ss set)

-- none of these fits
abbrev pub DoNoneFit : Values → List Condition → List Members → Type 0
DoNoneFit x path sets = AllByRecursion (λ s. ¬ IsFit x path s) sets

-- how far the value of a pair is from a half, in units
abbrev pub from_half : Values → ℕ → ℕ → ℕ
from_half x u v = abs_diff (value_of x.entries u v) (2 ^ 19)

-- the pair comes before another, by its lower city first
abbrev pub ComesBefore : ℕ → ℕ → ℕ → ℕ → Type 0
ComesBefore u v a b = (u < a) ⊎ ((u ≡ a) × (v < b))

-- The undecided pair whose value is nearest to a half, the first of them.
pub record IsNearest (x : Values) (path : List Condition) (a b : ℕ) : Type 0 where
  pub pair : IsPair x.n a b
  pub free : is_decided path a b ≡ false
  pub nearest : (u v : ℕ) → u < v → v < x.n → is_decided path u v ≡ false → from_half x a b ≤ from_half x u v
  pub first : (u v : ℕ) → u < v → v < x.n → is_decided path u v ≡ false → ComesBefore u v a b → from_half x a b < from_half x u v

-- the first component that fits, or the nearest pair where none does
abbrev pub IsChoice : Values → List Condition → Branch → Type 0
IsChoice x path (Clique set) = (sets : List Members) × (AreMiddle x sets × IsFirstFit x path sets set)
IsChoice x path (Edge u v) = ((sets : List Members) × (AreMiddle x sets × DoNoneFit x path sets)) × IsNearest x path u v
