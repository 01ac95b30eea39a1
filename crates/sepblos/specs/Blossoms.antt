-- Blossoms: combs whose handle is a component of the pairs in the middle, and whose teeth are pairs near one length.
use Rattle.std.specs.Prelude.{◌≡◌, ℕ, ◌-◌, ◌^◌, min, max, Bool, cond, ◌&&◌, nat_le, List, [], ◌∷◌, pos, ◌≤ℤ◌}
use Rattle.tspdef.specs.Sets.{has, AreDisjoint}
use Rattle.tspdef.specs.Tours.{crosses}
use Rattle.tspdef.specs.Cuts.{Cut, comb}
use Rattle.tspdef.specs.Bounds.{scale, violation}
use Rattle.cyc.specs.CitySet.{Members}
use Rattle.cyc.specs.declared.frac.Entry.{Entry}
use Rattle.cyc.specs.Frac.{Values, value_of}
use Rattle.fracgraph.specs.Components.{AreComponents}
use Rattle.cutform.specs.Combs.{AreOddMany}
use Rattle.sepblos.specs.Made.{AreMade}

-- a value of one length less 2^10 units, or more
abbrev pub is_near_one : ℕ → Bool
is_near_one value = nat_le (scale - 2 ^ 10) value

-- the entry is of a pair near one length with exactly one city in the handle
abbrev pub is_tooth : List ℕ → Entry → Bool
is_tooth handle e = is_near_one e.x && crosses (has handle) (e.u, e.v)

-- the teeth of a handle, in the order of the entries; there are none where it is all cities
abbrev pub teeth_of : List Entry → List ℕ → List (List ℕ)
teeth_of [] handle = []
teeth_of (e ∷ es) handle = cond (is_tooth handle e) ((min e.u e.v ∷ max e.u e.v ∷ []) ∷ teeth_of es handle) (teeth_of es handle)

-- The comb of a handle and its teeth, where those are an odd number, three or more, and no two meet, violated by 2^10 units or more.
pub record IsBlossom (x : Values) (handle : Members) (cut : Cut) : Type 0 where
  pub odd : AreOddMany (teeth_of x.entries handle.cities)
  pub apart : AreDisjoint (teeth_of x.entries handle.cities)
  pub made : cut ≡ comb x.n handle.cities (teeth_of x.entries handle.cities)
  pub violated : pos (2 ^ 10) ≤ℤ violation (value_of x.entries) x.n cut

-- the blossoms of the components of the pairs in the middle, in order of the components
abbrev pub AreBlossoms : Values → List Cut → Type 0
AreBlossoms x cuts = (sets : List Members) × (AreComponents x (2 ^ 10) (scale - 2 ^ 10) sets × AreMade (IsBlossom x) sets cuts)
