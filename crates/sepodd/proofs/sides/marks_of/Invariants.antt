use Rattle.std.proofs.Common.{◌≡◌, ◌<◌, ℕ, vec_len, slice_index}
use Rattle.sepodd.specs.Sides.{is_marked}
use Rattle.sepodd.proofs.sides.marks_of.Given as goal

abbrev pub invariant-loop-k : goal.invariant-loop-k
invariant-loop-k l = record {
  size : vec_len l.marks ≡ l.k;
  marks : (j : ℕ) → j < l.k → is_marked l.marks.items j ≡ is_marked l.groups (slice_index l.numbers j);
}
