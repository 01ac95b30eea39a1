-- A pool of cuts: a list of distinct cuts of n cities, numbered from 0.
use Rattle.std.specs.Prelude.{◌≡◌, ◌≢◌, ℕ, ◌^◌, ◌<◌, ◌⊎◌, Bool, ◌==◌, ◌&&◌, int_le, pos, ◌≤ℤ◌, List, [], ◌∷◌, ◌++◌, length, slice_get, Some}
use Rattle.std.specs.List.{AllByRecursion, Contains, filter}
use Rattle.tspdef.specs.Cuts.{Cut, IsCut, cities_of}
use Rattle.tspdef.specs.Bounds.{violation}
use Rattle.cyc.specs.Frac.{Values, value_of}
use Rattle.cutpool.specs.declared.pool.Placed.{Placed}
use Rattle.cutpool.specs.declared.pool.Placed.TheVariants.{Number, Full}

-- of how many cities the cuts are, and the cuts in order of number
pub record Pool : Type 0 where
  pub n : ℕ
  pub cuts : List Cut

-- no cut stands twice
abbrev pub AreDistinctCuts : List Cut → Type 0
AreDistinctCuts [] = Unit {0}
AreDistinctCuts (c ∷ cs) = AllByRecursion (λ d. c ≢ d) cs × AreDistinctCuts cs

-- An equal cut has the number, and the pool stays.
pub record IsFound (old new : Pool) (cut : Cut) (k : ℕ) : Type 0 where
  pub there : slice_get old.cuts k ≡ Some cut
  pub same : new ≡ old

-- No equal cut was there, and now the cut is the last one, with the next number.
pub record IsAdded (old new : Pool) (cut : Cut) (k : ℕ) : Type 0 where
  pub missing : ¬ Contains old.cuts cut
  pub next : k ≡ length old.cuts
  pub room : k < 65536
  pub added : new ≡ record { n = old.n; cuts = old.cuts ++ cut ∷ [] }

-- No equal cut is there, and 65,536 others are; the pool stays.
pub record IsFull (old new : Pool) (cut : Cut) : Type 0 where
  pub missing : ¬ Contains old.cuts cut
  pub many : length old.cuts ≡ 65536
  pub same : new ≡ old

-- what putting a cut into a pool does and tells
abbrev pub IsPut : Pool → Pool → Cut → Placed → Type 0
IsPut old new cut (Number k) = IsFound old new cut k ⊎ IsAdded old new cut k
IsPut old new cut Full = IsFull old new cut

-- what sharing a cut does: one of another number of cities is passed over, else it is put in
abbrev pub IsShared : Pool → Pool → Cut → Type 0
IsShared old new cut = ((cities_of cut ≢ old.n) × (new ≡ old)) ⊎ ((cities_of cut ≡ old.n) × ((r : Placed) × IsPut old new cut r))

-- the values violate the cut by 2^10 units or more
abbrev pub misses : Values → Cut → Bool
misses x cut = int_le (pos (2 ^ 10)) (violation (value_of x.entries) x.n cut)

-- the cuts that are violated by so much, in their order
abbrev pub violated_cuts : Values → List Cut → List Cut
violated_cuts x cuts = filter (misses x) cuts

-- the cut is of as many cities as the values, and they violate it by so much
abbrev pub is_worth : Values → Cut → Bool
is_worth x cut = (cities_of cut == x.n) && misses x cut

-- A cut of the values' cities, violated by 2^10 units or more.
pub record IsWorthAdding (x : Values) (cut : Cut) : Type 0 where
  pub is_cut : IsCut x.n cut
  pub violated : pos (2 ^ 10) ≤ℤ violation (value_of x.entries) x.n cut
