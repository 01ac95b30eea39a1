-- The laws of accepted texts and of depths.
use Rattle.std.specs.Prelude.{ℕ, ◌≤◌, ◌↔◌, List, ◌++◌}
use Rattle.tspdef.specs.Instances.{Instance, IsTourOf, length_in}
use Rattle.tspdef.specs.Paths.{Condition, fixed_conditions}
use Rattle.certdef.specs.Proofs.{Written}
use Rattle.certdef.specs.Accepted.{DepthsName, IsAcceptedText}

-- Where a text is accepted with a bound, no tour is shorter.
abbrev pub AcceptedTextIsBelow : Type 0
AcceptedTextIsBelow = (i : Instance) (bytes : List ℕ) (l b : ℕ) → 3 ≤ i.n → IsAcceptedText i bytes l b
    → (tour : List ℕ) → IsTourOf i tour → b ≤ length_in i tour

-- Fixed pairs have no depth: behind them the depths of a tree name what they name without them.
abbrev pub FixedPairsHaveNoDepth : Type 0
FixedPairsHaveNoDepth = (pairs : List (ℕ × ℕ)) (path : List Condition) (t : Written) → DepthsName (fixed_conditions pairs ++ path) t ↔ DepthsName path t
