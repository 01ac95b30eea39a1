use Rattle.std.proofs.Common.{◌≡◌, ◌↔◌, length}
use Rattle.tspdef.specs.Paths.{fixed_conditions}
use Rattle.branchx.specs.Cond.{conditions_of}
use Rattle.treebook.proofs.on_path.are_fixed.Given as goal

abbrev pub invariant-loop-pair : goal.invariant-loop-pair
invariant-loop-pair l = (conditions_of l.rest ≡ fixed_conditions l.pairs) ↔ (conditions_of l.conditions ≡ fixed_conditions l.fixed)

abbrev pub decreases-loop-pair : goal.decreases-loop-pair
decreases-loop-pair l = length l.pairs
