-- Tours to start with.
use Rattle.std.specs.Prelude.{ℕ, ◌-◌, ◌≤◌, min, List}
use Rattle.tspdef.specs.Instances.{Instance, IsTourOf, length_in}
use Rattle.neigh.specs.Near.{Near, AreNearLists}
use Rattle.neigh.specs.Walk.{nearest_walk}
use Rattle.linkern.specs.Rests.{IsAtRest}
use Rattle.opening.specs.declared.Opening.{Opening}

-- how many near cities each list has: ten, or all others where there are fewer
abbrev pub near_cities : ℕ → ℕ
near_cities n = min 10 (n - 1)

-- the length of the nearest-neighbour walk, which holds the fixed pairs
abbrev pub opening_length : Instance → ℕ
opening_length i = length_in i (nearest_walk i)

-- a tour of the instance no longer than the walk, that no exchange of two steps that are not fixed shortens where a replacement is near
pub record IsOpeningTour (i : Instance) (tour : List ℕ) : Type 0 where
  pub is_tour : IsTourOf i tour
  pub no_longer : length_in i tour ≤ opening_length i
  pub near : Near
  pub lists : AreNearLists i (near_cities i.n) near
  pub rests : IsAtRest i near tour

-- such a tour with its near lists
pub record IsOpening (i : Instance) (o : Opening) : Type 0 where
  pub is_tour : IsTourOf i o.tour
  pub no_longer : length_in i o.tour ≤ opening_length i
  pub lists : AreNearLists i (near_cities i.n) o.near
  pub rests : IsAtRest i o.near o.tour
