-- Duals that are raised from 0 (Held and Karp 1971).
use Rattle.std.specs.Prelude.{◌≡◌, ℕ, ◌*◌, ◌^◌, ◌<◌, ◌≤◌, ◌⊎◌, Bool, true, false, List, replicate, slice_set, ℤ, pos, neg_ℤ, ◌+ℤ◌, ◌≤ℤ◌, ◌<ℤ◌}
use Rattle.tspdef.specs.Instances.{Instance}
use Rattle.onetree.specs.OneTrees.{AreDuals, IsHeldKarp, dual_of}

-- by how much a gain raises a value at least, in units
abbrev pub least_gain : ℕ
least_gain = 2 ^ 10

-- all duals 0
abbrev pub zeros : ℕ → List ℤ
zeros n = replicate n (pos 0)

-- so many units up or down
abbrev pub moved : Bool → ℕ → ℤ
moved true m = pos m
moved false m = neg_ℤ (pos m)

-- the duals with that of one city changed by so much
abbrev pub changed : List ℤ → ℕ → ℤ → List ℤ
changed p c x = slice_set p c (dual_of p c +ℤ x)

-- No change of the dual of city c in this direction by a power of two from 2^10 to 2^40, within the size of duals, raises the value h
-- by 2^10 or more.
abbrev pub IsStill : Instance → List ℤ → ℤ → ℕ → Bool → Type 0
IsStill i p h c up = (k : ℕ) (j : ℤ) → 10 ≤ k → k ≤ 40 → AreDuals i.n (changed p c (moved up (2 ^ k)))
    → IsHeldKarp i (changed p c (moved up (2 ^ k))) j → j <ℤ (h +ℤ pos least_gain)

-- No such change of one dual, up or down, raises the value by 2^10 or more.
abbrev pub AreAtRest : Instance → List ℤ → ℤ → Type 0
AreAtRest i p h = (c : ℕ) (up : Bool) → c < i.n → IsStill i p h c up

-- duals and their Held-Karp value
pub record HasValue (i : Instance) (p : List ℤ) (h : ℤ) : Type 0 where
  pub duals : AreDuals i.n p
  pub value : IsHeldKarp i p h

-- What so many steps reach from the value z of all duals 0: the value h exceeds it by 2^10 a step at least, or it is no less and the
-- duals are at rest.
abbrev pub Reaches : Instance → ℕ → List ℤ → ℤ → ℤ → Type 0
Reaches i steps p z h = ((z +ℤ pos (steps * least_gain)) ≤ℤ h) ⊎ ((z ≤ℤ h) × AreAtRest i p h)

-- Duals that so many steps raised from 0.
pub record AreRaised (i : Instance) (steps : ℕ) (p : List ℤ) : Type 0 where
  pub duals : AreDuals i.n p
  pub none : steps ≡ 0 → p ≡ zeros i.n
  pub start : ℤ
  pub value : ℤ
  pub start_is : IsHeldKarp i (zeros i.n) start
  pub value_is : IsHeldKarp i p value
  pub reached : Reaches i steps p start value
