-- The laws of tours that the used pairs of a path are.
use Rattle.std.specs.Prelude.{◌≡◌, ℕ, ◌≤◌, List, ◌++◌}
use Rattle.tspdef.specs.Tours.{IsTour}
use Rattle.tspdef.specs.Instances.{Instance, IsInstance, IsTourOf, length_in}
use Rattle.tspdef.specs.Paths.{Condition, root}
use Rattle.tspdef.specs.Rays.{AreStepsOf}
use Rattle.pathtour.specs.UsedTour.{IsUsedTour}

-- Tours whose steps are the pairs that one path uses are of one length, whether they are canonical or not, and hold the fixed
-- pairs or not.
abbrev pub UsedToursAreOfOneLength : Type 0
UsedToursAreOfOneLength = (i : Instance) (path : List Condition) (tour other : List ℕ) → 3 ≤ i.n → IsTour i.n tour → IsTour i.n other
    → AreStepsOf i.n path tour → AreStepsOf i.n path other → length_in i tour ≡ length_in i other

-- Only one of them is canonical.
abbrev pub UsedTourIsOne : Type 0
UsedTourIsOne = (n : ℕ) (path : List Condition) (tour other : List ℕ) → 3 ≤ n → IsUsedTour n path tour → IsUsedTour n path other → tour ≡ other

-- Where the path begins with the fixed pairs of an instance, such a tour holds them: it is one of the instance.
abbrev pub UsedToursHoldFixedPairs : Type 0
UsedToursHoldFixedPairs = (i : Instance) (rest : List Condition) (tour : List ℕ) → IsInstance i → IsTour i.n tour
    → AreStepsOf i.n (root i ++ rest) tour → IsTourOf i tour
