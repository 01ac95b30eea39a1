-- The greatest bound that the nodes of a table bear, as far as they were looked at.
use Rattle.std.specs.Prelude.{◌≡◌, ℕ, ◌<◌, ◌≤◌, List, ◌<ℤ◌}
use Rattle.tspdef.specs.Instances.{Instance}
use Rattle.tspdef.specs.Closings.{Closing}
use Rattle.tspdef.specs.Bounds.{bound, needed}
use Rattle.treebook.specs.Tables.{Node, closed_node, state_at, path_at}
use Rattle.treebook.specs.Laws.{ClosesFor}

-- b is the greatest bound, at most l, that the closed nodes before k bear
pub record IsGreatestSoFar (i : Instance) (nodes : List Node) (l k b : ℕ) : Type 0 where
  pub below : b ≤ l
  pub closes : (j : ℕ) (c : Closing) → j < k → state_at nodes j ≡ closed_node c → needed b <ℤ (bound i (path_at i.fixed nodes j) c)
  pub greatest : (a : ℕ) → a ≤ l → ClosesFor i a nodes → a ≤ b

-- b is the greatest bound, at most l, that a node bears
pub record IsBorneAt (i : Instance) (nodes : List Node) (l k b : ℕ) : Type 0 where
  pub below : b ≤ l
  pub closes : (c : Closing) → state_at nodes k ≡ closed_node c → needed b <ℤ (bound i (path_at i.fixed nodes k) c)
  pub greatest : (a : ℕ) → a ≤ l → ClosesFor i a nodes → a ≤ b
