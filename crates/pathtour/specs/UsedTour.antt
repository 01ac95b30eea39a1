-- The tour that the used pairs of a path are.
use Rattle.std.specs.Prelude.{ℕ, List}
use Rattle.tspdef.specs.Tours.{IsTour, IsCanonical}
use Rattle.tspdef.specs.Paths.{Condition}
use Rattle.tspdef.specs.Rays.{AreStepsOf}

-- the canonical tour whose steps are the pairs that the path uses
pub record IsUsedTour (n : ℕ) (path : List Condition) (tour : List ℕ) : Type 0 where
  pub is_tour : IsTour n tour
  pub canonical : IsCanonical tour
  pub used : AreStepsOf n path tour

-- no tour has the pairs that the path uses as its steps
abbrev pub IsUsedByNone : ℕ → List Condition → Type 0
IsUsedByNone n path = (tour : List ℕ) → IsTour n tour → ¬ AreStepsOf n path tour
