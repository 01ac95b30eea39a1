-- Tours of a size that the program takes.
use Rattle.std.specs.Prelude.{ℕ, ◌<◌, ◌≤◌, List, length}
use Rattle.std.specs.List.{AllByRecursion}
use Rattle.tspdef.specs.Tours.{AreDistinct, IsTour}

-- the cities are below n and all different
pub record AreApart (n : ℕ) (cities : List ℕ) : Type 0 where
  pub below : AllByRecursion (λ c. c < n) cities
  pub distinct : AreDistinct cities

-- a tour of 3 to 2,000 cities
pub record IsWhole (tour : List ℕ) : Type 0 where
  pub many : 3 ≤ length tour
  pub few : length tour ≤ 2000
  pub is_tour : IsTour (length tour) tour
