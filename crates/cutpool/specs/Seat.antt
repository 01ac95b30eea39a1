-- A seat at a pool that threads share: the cuts that it shared, each at its place from 0.
use Rattle.std.specs.Prelude.{◌≡◌, ◌≢◌, ℕ, ◌<◌, ◌≤◌, ◌⊎◌, List, [], ◌∷◌, ◌++◌, length, map}
use Rattle.std.specs.List.{All, Contains}
use Rattle.boxcar.specs.Table.{Shelves, Where, Shows}
use Rattle.tspdef.specs.Cuts.{Cut, cities_of, IsCut}
use Rattle.cutpool.specs.Pool.{Pool, IsFound}
use Rattle.cutpool.specs.declared.seat.Seated.{Seated}
use Rattle.cutpool.specs.declared.seat.Seated.TheVariants.{Shared, Full}

-- of how many cities the cuts of a shared pool are, and where they are kept
pub record Shelf : Type 0 where
  pub n : ℕ
  pub kept : Shelves

-- what a token says was pushed
abbrev pub pushed_cut : Where Cut → Cut
pushed_cut token = token.value

-- its cuts are of 3 to 2,000 cities, and what keeps them is tagged with that number
pub record IsShelf (shelf : Shelf) : Type 0 where
  pub many : 3 ≤ shelf.n
  pub few : shelf.n ≤ 2000
  pub tag : shelf.kept.tag ≡ shelf.n ∷ []

-- the tokens show the seat's cuts in their order, which are of the pool's cities and 4,096 at most
pub record AreSeatsOwn (shelf : Shelf) (cuts : List Cut) (tokens : List (Where Cut)) : Type 0 where
  pub shown : All (Shows shelf.kept) tokens
  pub same : map pushed_cut tokens ≡ cuts
  pub are_cuts : All (IsCut shelf.n) cuts
  pub few : length cuts ≤ 4096

-- No equal cut of the seat was there, and now the cut is the seat's last one, at the next place.
pub record IsKept (old new : Pool) (cut : Cut) (k : ℕ) : Type 0 where
  pub missing : ¬ Contains old.cuts cut
  pub next : k ≡ length old.cuts
  pub room : k < 4096
  pub kept : new ≡ record { n = old.n; cuts = old.cuts ++ cut ∷ [] }

-- The seat holds 4,096 cuts, none equal to this one; it stays.
pub record IsSeatFull (old new : Pool) (cut : Cut) : Type 0 where
  pub missing : ¬ Contains old.cuts cut
  pub many : length old.cuts ≡ 4096
  pub same : new ≡ old

-- what sharing a cut from a seat does and tells
abbrev pub IsSeated : Pool → Pool → Cut → Seated → Type 0
IsSeated old new cut (Shared k) = IsFound old new cut k ⊎ IsKept old new cut k
IsSeated old new cut Full = IsSeatFull old new cut

-- what a seat as a box does with a cut: one of another number of cities is passed over, else it is shared
abbrev pub IsTaken : Pool → Pool → Cut → Type 0
IsTaken old new cut = ((cities_of cut ≢ old.n) × (new ≡ old)) ⊎ ((cities_of cut ≡ old.n) × ((r : Seated) × IsSeated old new cut r))
