-- The least set, and sets that are crossed too little.
use Rattle.std.specs.Prelude.{◌≡◌, ℕ, ◌*◌, ◌^◌, true, List, pos, ◌+ℤ◌, ◌≤ℤ◌, ◌<ℤ◌}
use Rattle.tspdef.specs.Sets.{has, IsProper}
use Rattle.tspdef.specs.Bounds.{scale}
use Rattle.cyc.specs.CitySet.{Members}
use Rattle.cyc.specs.Frac.{Values}
use Rattle.maxflow.specs.Crossings.{crossing_weight}
use Rattle.sepsub.specs.declared.LeastSet.{LeastSet}

-- A proper set with city 0 that is crossed by exactly the weight, the least of all proper sets.
pub record IsLeastSet (x : Values) (l : LeastSet) : Type 0 where
  pub cities : l.set.n ≡ x.n
  pub proper : IsProper x.n l.set.cities
  pub home : has l.set.cities 0 ≡ true
  pub crossed : crossing_weight x (has l.set.cities) ≡ pos l.weight
  pub least : (other : List ℕ) → IsProper x.n other → pos l.weight ≤ℤ crossing_weight x (has other)

-- A proper set that is crossed by more than 2^10 units less than twice.
pub record IsViolated (x : Values) (s : Members) : Type 0 where
  pub cities : s.n ≡ x.n
  pub proper : IsProper x.n s.cities
  pub light : (crossing_weight x (has s.cities) +ℤ pos (2 ^ 10)) <ℤ pos (2 * scale)
