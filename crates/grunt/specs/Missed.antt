-- Values that no cut of the separations is worth adding for.
use Rattle.std.specs.Prelude.{ℕ, ◌*◌, ◌^◌, List, [], pos, ◌+ℤ◌, ◌≤ℤ◌}
use Rattle.tspdef.specs.Sets.{has, IsProper}
use Rattle.tspdef.specs.Bounds.{scale}
use Rattle.cyc.specs.Frac.{Values}
use Rattle.maxflow.specs.Crossings.{crossing_weight}
use Rattle.sepblos.specs.Blossoms.{AreBlossoms}
use Rattle.sepcomb.specs.Combs.{AreCombs}

-- no proper set is crossed by more than 2^10 units less than twice
abbrev pub HasNoLightSet : Values → Type 0
HasNoLightSet x = (s : List ℕ) → IsProper x.n s → pos (2 * scale) ≤ℤ (crossing_weight x (has s) +ℤ pos (2 ^ 10))

-- No proper set is light, and there is neither a blossom nor a comb that the values violate.
pub record MissesNoCut (x : Values) : Type 0 where
  pub sets : HasNoLightSet x
  pub blossoms : AreBlossoms x []
  pub combs : AreCombs x []
