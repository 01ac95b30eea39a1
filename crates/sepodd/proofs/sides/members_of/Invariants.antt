use Rattle.std.proofs.Common.{◌≡◌, ◌<◌, ℕ, vec_len}
use Rattle.tspdef.specs.Sets.{has}
use Rattle.sepodd.specs.Sides.{is_marked}
use Rattle.sepodd.proofs.sides.members_of.Given as goal

abbrev pub invariant-loop-k : goal.invariant-loop-k
invariant-loop-k l = record {
  size : vec_len l.marks ≡ l.k;
  marks : (j : ℕ) → j < l.k → is_marked l.marks.items j ≡ has l.set.cities j;
}
