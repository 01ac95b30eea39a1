-- Which cuts are listed.
use Rattle.std.specs.Prelude.{◌≡◌, ℕ, ◌<◌, true, List, length}
use Rattle.std.specs.List.{list_any, AllByRecursion}
use Rattle.tspdef.specs.Cuts.{Cut}
use Rattle.tspdef.specs.Closings.{Closing}
use Rattle.treebook.specs.Tables.{Node, closed_node, state_at}
use Rattle.certform.specs.Written.{is_same_cut}

-- the cut is one of the list
abbrev pub IsListed : List Cut → Cut → Type 0
IsListed cuts c = list_any (is_same_cut c) cuts ≡ true

abbrev pub AreListed : List Cut → List (Cut × ℕ) → Type 0
AreListed cuts qs = AllByRecursion (λ q. IsListed cuts q.0) qs

-- k is a node, and where it is closed its cuts are listed
pub record IsReady (cuts : List Cut) (nodes : List Node) (k : ℕ) : Type 0 where
  pub within : k < length nodes
  pub listed : (c : Closing) → state_at nodes k ≡ closed_node c → AreListed cuts c.cuts

abbrev pub AreReady : List Cut → List Node → List ℕ → Type 0
AreReady cuts nodes ks = AllByRecursion (IsReady cuts nodes) ks
