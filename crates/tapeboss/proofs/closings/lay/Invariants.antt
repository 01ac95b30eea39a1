use Rattle.std.proofs.Common.{◌≡◌, ℕ, List, ◌++◌, length, ℤ}
use Rattle.certdef.specs.Accepted as defs
use Rattle.tapeboss.proofs.closings.lay.Given as goal

abbrev pub invariant-loop-dual : goal.invariant-loop-dual
invariant-loop-dual l = (laid : List (ℕ × ℤ)) × (l.given ≡ l.rest ++ laid) × (l.duals ≡ defs.duals_from laid 1 (length l.duals))

abbrev pub decreases-loop-dual : goal.decreases-loop-dual
decreases-loop-dual l = length l.rest
