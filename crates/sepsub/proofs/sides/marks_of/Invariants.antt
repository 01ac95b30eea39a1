use Rattle.std.proofs.Common.{◌≡◌, ◌<◌, ℕ, vec_len}
use Rattle.tspdef.specs.Sets.{has}
use Rattle.maxflow.specs.Flows.{is_stop}
use Rattle.sepsub.proofs.sides.marks_of.Given as goal

abbrev pub invariant-loop-k : goal.invariant-loop-k
invariant-loop-k l = record {
  size : vec_len l.marks ≡ l.k;
  marks : (j : ℕ) → j < l.k → is_stop l.marks.items j ≡ has l.side.cities j;
}
