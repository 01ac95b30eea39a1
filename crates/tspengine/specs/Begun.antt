-- What a search begins with.
use Rattle.std.specs.Prelude.{◌≡◌, ℕ, List, Option, Some}
use Rattle.tspdef.specs.Instances.{Instance}
use Rattle.tspdef.specs.Trees.{Tree}
use Rattle.tspengine.specs.Starts.{BeginsAnew, GoesOnWith}
use Rattle.tspengine.specs.Searches.{start_in, IsSearchOf}
use Rattle.tspengine.specs.Solving.{IsRefusedLoad}
use Rattle.tspengine.specs.declared.starting.Search.{Search}
use Rattle.tspengine.specs.declared.starting.Begun.{Begun}
use Rattle.tspengine.specs.declared.starting.Begun.TheVariants as begun

-- a boss of the instance, with near lists, of which nothing is settled
pub record IsSearchAt (i : Instance) (budget gap : ℕ) (s : Search) : Type 0 where
  pub search : IsSearchOf i budget gap s.boss
  pub cities : s.near.n ≡ i.n
  pub none : s.boss.settled ≡ 0

pub record IsFreshSearch (i : Instance) (budget gap : ℕ) (s : Search) : Type 0 where
  pub search : IsSearchAt i budget gap s
  pub anew : BeginsAnew i (start_in s.boss)

-- at this tree, with a best tour of this length
pub record IsSearchFrom (i : Instance) (budget gap : ℕ) (t : Tree) (long : ℕ) (s : Search) : Type 0 where
  pub search : IsSearchAt i budget gap s
  pub start : start_in s.boss ≡ record { tree = t; long = long }

abbrev pub IsBegun : Instance → ℕ → ℕ → Begun → Type 0
IsBegun i budget gap (begun.Search s) = IsSearchAt i budget gap s
IsBegun i budget gap (begun.Refused refusal line) = Unit {0}

-- anew, as if the slots held nothing
abbrev pub IsBegunAnew : Instance → Begun → Type 0
IsBegunAnew i (begun.Search s) = BeginsAnew i (start_in s.boss)
IsBegunAnew i (begun.Refused refusal line) = ⊥

-- with what the slots load
abbrev pub IsBegunWith : Instance → ℕ → ℕ → Option (List ℕ) → Begun → Type 0
IsBegunWith i budget gap body (begun.Search s) = (bytes : List ℕ) × ((body ≡ Some bytes) × GoesOnWith i budget gap bytes (start_in s.boss))
IsBegunWith i budget gap body (begun.Refused refusal line) = IsRefusedLoad i budget gap body refusal line
