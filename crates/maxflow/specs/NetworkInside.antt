-- The fields of a network: the pairs of positive value.
use Rattle.std.specs.Prelude.{ℕ, ◌^◌, ◌<◌, ◌≤◌, Bool}
use Rattle.std.specs.List.{All}
use Rattle.cyc.specs.Frac.{Values}
use Rattle.maxflow.specs.Crossings.{crossing, IsPair}
use Rattle.maxflow.specs.declared.network.Network.TheInside.{Inside}

-- what the fields list
abbrev pub values_of : Inside → Values
values_of w = record { n = w.n; entries = w.pairs.items }

-- pairs of 3 to 2,000 cities, of which less than 2^53 crosses any set
pub record IsNetwork (w : Inside) : Type 0 where
  pub many : 3 ≤ w.n
  pub few : w.n ≤ 2000
  pub within : All (IsPair w.n) w.pairs.items
  pub small : (p : ℕ → Bool) → crossing w.pairs.items p < 2 ^ 53
