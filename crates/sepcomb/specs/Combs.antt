-- Combs whose handle is a component of pairs above a limit, and whose teeth grow along pairs near one length.
use Rattle.std.specs.Prelude.{◌≡◌, ℕ, ◌-◌, ◌*◌, ◌^◌, ◌≤◌, List, [], ◌++◌, length}
use Rattle.tspdef.specs.Cuts.{Cut}
use Rattle.tspdef.specs.Bounds.{scale}
use Rattle.cyc.specs.CitySet.{Members}
use Rattle.cyc.specs.Frac.{Values}
use Rattle.fracgraph.specs.Components.{AreComponents}
use Rattle.sepblos.specs.Violated.{IsViolatedComb}
use Rattle.sepblos.specs.Made.{AreMade}
use Rattle.sepcomb.specs.Pairs.{pairs_of}
use Rattle.sepcomb.specs.Growth.{ends_of, grown}

-- The comb of a handle of three cities or more and its grown teeth, which are an odd number, three or more, violated by 2^10 units or more.
pub record IsCombOf (x : Values) (handle : Members) (cut : Cut) : Type 0 where
  pub size : 3 ≤ length handle.cities
  pub comb : IsViolatedComb x handle.cities (grown x handle.cities (ends_of (pairs_of x.entries handle.cities)) (pairs_of x.entries handle.cities)) cut

-- the combs of the components of pairs above a limit, in order of the components, after other cuts
abbrev pub AreCombsAbove : ℕ → Values → List Cut → List Cut → Type 0
AreCombsAbove limit x others cuts =
    (sets : List Members) × (more : List Cut) × AreComponents x limit (scale - 2 ^ 10) sets × AreMade (IsCombOf x) sets more × (cuts ≡ others ++ more)

-- the combs of the limits of a quarter, a half and three quarters of one length
abbrev pub AreCombs : Values → List Cut → Type 0
AreCombs x cuts =
    (low : List Cut) × (half : List Cut) × AreCombsAbove (2 ^ 18) x [] low × AreCombsAbove (2 ^ 19) x low half × AreCombsAbove (3 * 2 ^ 18) x half cuts
