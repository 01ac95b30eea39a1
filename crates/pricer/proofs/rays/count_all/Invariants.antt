use Rattle.std.proofs.Common.{◌≡◌, ◌<◌, ◌≤◌, ℕ, pos, take}
use Rattle.std.specs.Prelude.{slice_index}
use Rattle.tspdef.specs.Rays.{degree}
use Rattle.branchx.specs.Cond.{conditions_of}
use Rattle.pricer.proofs.rays.count_all.Given as goal

abbrev pub invariant-loop-condition : goal.invariant-loop-condition
invariant-loop-condition l = record {
  so_far : (v : ℕ) → v < l.n → pos (slice_index l.degrees v) ≡ degree l.n (conditions_of (take l.condition-index l.conditions)) v;
  small : (v : ℕ) → slice_index l.degrees v ≤ l.condition-index;
}
