-- What contracts see of a set of cities.
use Rattle.std.specs.Prelude.{ℕ, List}

-- some of n cities, in rising order
pub record Members : Type 0 where
  pub n : ℕ
  pub cities : List ℕ
