use Rattle.std.proofs.Common.{◌≡◌, ◌%◌, ◌^◌, take}
use Rattle.maxflow.specs.Crossings.{crossing}
use Rattle.maxflow.specs.Shrinking.{in_group}
use Rattle.maxflow.proofs.groups.weight_of.Given as goal

abbrev pub invariant-loop-entry : goal.invariant-loop-entry
invariant-loop-entry l = l.weight ≡ crossing (take l.entry-index l.entries) (in_group l.groups l.a) % 2 ^ 64
