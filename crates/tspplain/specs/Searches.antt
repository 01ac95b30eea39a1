-- What a search through all tours keeps of the best one so far.
use Rattle.std.specs.Prelude.{ℕ, ◌≤◌, ◌<◌, ◌++◌, List, Option, Some, None}
use Rattle.std.specs.Global.{Vec}
use Rattle.tspdef.specs.Instances.{Instance, IsTourOf, length_in}

-- the best so far is a tour
abbrev pub IsTourIfAny : Instance → Option (Vec ℕ) → Type 0
IsTourIfAny i None = Unit {0}
IsTourIfAny i (Some best) = IsTourOf i best.items

-- there is a best so far, and it is no longer than the tour
abbrev pub IsNoLonger : Instance → Option (Vec ℕ) → List ℕ → Type 0
IsNoLonger i None tour = ⊥
IsNoLonger i (Some best) tour = length_in i best.items ≤ length_in i tour

-- the tour is shorter than the best so far, or there is none
abbrev pub IsShorter : Instance → List ℕ → Option (Vec ℕ) → Type 0
IsShorter i tour None = Unit {0}
IsShorter i tour (Some best) = length_in i tour < length_in i best.items

-- no tour that begins with the front is shorter than the best
abbrev pub IsBestFrom : Instance → Option (Vec ℕ) → List ℕ → Type 0
IsBestFrom i best front = (rest : List ℕ) → IsTourOf i (front ++ rest) → IsNoLonger i best (front ++ rest)

-- the new best is no longer than the old one
abbrev pub Improves : Instance → Option (Vec ℕ) → Option (Vec ℕ) → Type 0
Improves i old new = (tour : List ℕ) → IsNoLonger i old tour → IsNoLonger i new tour
