-- The best side so far, and how sides are found.
use Rattle.std.specs.Prelude.{◌≡◌, ◌≢◌, ℕ, ◌+◌, ◌<◌, ◌≤◌, Bool, true, false, ◌==◌, List, length, slice_index, slice_index_or, Option, Some, None}
use Rattle.tspdef.specs.Sets.{has}
use Rattle.tspdef.specs.Tours.{crosses, joins}
use Rattle.cyc.specs.declared.frac.Entry.{Entry}
use Rattle.cyc.specs.Frac.{Values, value_of, is_listed}
use Rattle.sepodd.specs.declared.sides.Best.{Best}
use Rattle.sepodd.specs.Folding.{is_odd, differ, is_over, folded_crossing, turning}

-- a city is marked
abbrev pub is_marked : List Bool → ℕ → Bool
is_marked marks k = slice_index_or marks k false

-- the weight is that of the side, with the choice of a pair turned over where the side is even
abbrev pub HasWeight : List Entry → (ℕ → Bool) → Option (ℕ × ℕ) → ℕ → Type 0
HasWeight es p None weight = (is_odd es p ≡ true) × (folded_crossing es p ≡ weight)
HasWeight es p (Some t) weight = (is_odd es p ≡ false) × ((is_listed es t.0 t.1 ≡ true) × ((crosses p t ≡ true) × (folded_crossing es p + turning (value_of es t.0 t.1) ≡ weight)))

-- the best so far is at most one, and where it is less there is a side that has it
pub record IsBest (x : Values) (b : Best) : Type 0 where
  pub most : b.weight ≤ 1048576
  pub size : length b.side.items ≡ x.n
  pub has_weight : b.weight < 1048576 → HasWeight x.entries (is_marked b.side.items) b.turned b.weight

-- no odd set of these weighs less
abbrev pub IsBelowOdd : Values → (ℕ → ℕ) → ℕ → Type 0
IsBelowOdd x number weight = (p : ℕ → Bool) → is_odd x.entries (λ k. p (number k)) ≡ true → weight ≤ folded_crossing x.entries (λ k. p (number k))

-- no union of groups that parts two of them weighs less
abbrev pub IsBelowParting : Values → (ℕ → ℕ) → ℕ → ℕ → ℕ → Type 0
IsBelowParting x number s t weight = (p : ℕ → Bool) → p s ≡ true → p t ≡ false → weight ≤ folded_crossing x.entries (λ k. p (number k))

-- a union of groups that parts two of them, which an even number of entries above a half cross, and than which none weighs less
pub record IsEvenLeast (x : Values) (number : ℕ → ℕ) (s t : ℕ) (side : ℕ → Bool) : Type 0 where
  pub holds : side s ≡ true
  pub lacks : side t ≡ false
  pub even : is_odd x.entries (λ k. side (number k)) ≡ false
  pub least : IsBelowParting x number s t (folded_crossing x.entries (λ k. side (number k)))

-- no set that an entry crosses weighs less, once the entry's choice is turned over
abbrev pub IsBelowTurned : Values → Entry → ℕ → Type 0
IsBelowTurned x e weight = (p : ℕ → Bool) → crosses p (e.u, e.v) ≡ true → weight ≤ folded_crossing x.entries p + turning e.x

-- each group that is odd is one of these
abbrev pub AreOddAmong : Values → List ℕ → List ℕ → Type 0
AreOddAmong x numbers groups = (g : ℕ) → is_odd x.entries (λ k. slice_index numbers k == g) ≡ true → has groups g ≡ true

-- groups by number: of each of n cities below n, and the odd ones among some
pub record AreGroups (x : Values) (numbers groups : List ℕ) : Type 0 where
  pub size : length numbers ≡ x.n
  pub below : (k : ℕ) → k < x.n → slice_index numbers k < x.n
  pub known : (g : ℕ) → has groups g ≡ true → g < x.n
  pub odd : AreOddAmong x numbers groups

-- the choice of a pair in a cut: as is cheaper, but where it is turned over
abbrev pub is_turned : Option (ℕ × ℕ) → ℕ → ℕ → Bool
is_turned None u v = false
is_turned (Some t) u v = joins u v t

abbrev pub is_chosen : List Entry → Option (ℕ × ℕ) → ℕ → ℕ → Bool
is_chosen es t u v = differ (is_over (value_of es u v)) (is_turned t u v)

-- an entry of these values, of two cities and of at most one
pub record IsKnown (x : Values) (e : Entry) : Type 0 where
  pub u_below : e.u < x.n
  pub v_below : e.v < x.n
  pub apart : e.u ≢ e.v
  pub small : e.x ≤ 1048576
  pub listed : is_listed x.entries e.u e.v ≡ true
  pub value : value_of x.entries e.u e.v ≡ e.x
