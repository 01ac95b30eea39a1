use Rattle.std.proofs.Common.{◌≡◌, length}
use Rattle.certcheck.specs.Paths.{later}
use Rattle.certcheck.proofs.path.next_child.Given as goal

-- what is to come is as at first
abbrev pub invariant-loop-last : goal.invariant-loop-last
invariant-loop-last l = (later l.path.conditions ≡ later l.fn.path.conditions) × (l.path.n ≡ l.fn.path.n)

abbrev pub decreases-loop-last : goal.decreases-loop-last
decreases-loop-last l = length l.path.conditions
