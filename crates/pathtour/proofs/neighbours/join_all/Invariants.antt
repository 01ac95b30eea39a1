use Rattle.std.proofs.Common.{ℕ, ◌<◌, take}
use Rattle.branchx.specs.Cond.{conditions_of}
use Rattle.pathtour.specs.Neighbours.{IsJoined, joined_at}
use Rattle.pathtour.proofs.neighbours.join_all.Given as goal

abbrev pub invariant-loop-condition : goal.invariant-loop-condition
invariant-loop-condition l = (v : ℕ) → v < l.n → IsJoined (conditions_of (take l.condition-index l.conditions)) v (joined_at l.joined v)
