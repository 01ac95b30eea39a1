-- Named cuts that are taken out of the list for a while.
use Rattle.std.specs.Prelude.{◌≡◌, ℕ, ◌+◌, ◌-◌, ◌≤◌, List, [], ◌∷◌, length, map}
use Rattle.std.specs.List.{AllByRecursion, swap_remove}
use Rattle.tspdef.specs.Cuts.{Cut, subtour}
use Rattle.certdef.specs.Accepted.{cut_at}
use Rattle.certtests.specs.Places.{IsFromOne}

-- the numbers rise strictly, from k or more
abbrev pub Rise : ℕ → List (ℕ × ℕ) → Type 0
Rise k [] = Unit
Rise k (q ∷ qs) = (k ≤ q.0) × Rise (q.0 + 1) qs

-- the list without the cuts with these numbers: from the last of them back, each place is filled with the last cut that is left
abbrev pub without : List Cut → List (ℕ × ℕ) → List Cut
without cuts [] = cuts
without cuts (q ∷ qs) = swap_remove (without cuts qs) (q.0 - 1) (subtour 0 [])

-- the cuts with these numbers, each with its dual
abbrev pub named_in : List Cut → List (ℕ × ℕ) → List (Cut × ℕ)
named_in cuts qs = map (λ q. (cut_at cuts q.0, q.1)) qs

-- `left` and `named` are what a list is after the named cuts are taken out
pub record AreTakenOut (cuts : List Cut) (duals : List (ℕ × ℕ)) (left : List Cut) (named : List (Cut × ℕ)) : Type 0 where
  pub numbers : AllByRecursion (λ q. IsFromOne (length cuts) q.0) duals
  pub rising : Rise 1 duals
  pub others : left ≡ without cuts duals
  pub taken : named ≡ named_in cuts duals
