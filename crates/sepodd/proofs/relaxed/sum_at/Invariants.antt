use Rattle.std.proofs.Common.{◌≡◌, ◌%◌, ◌^◌, ◌==◌, take}
use Rattle.maxflow.specs.Crossings.{crossing}
use Rattle.sepodd.proofs.relaxed.sum_at.Given as goal

abbrev pub invariant-loop-entry : goal.invariant-loop-entry
invariant-loop-entry l = l.sum ≡ crossing (take l.entry-index l.entries) (λ j. j == l.k) % 2 ^ 64
