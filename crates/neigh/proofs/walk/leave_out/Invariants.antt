use Rattle.std.proofs.Common.{◌≡◌, ◌<◌, ℕ, get_or}
use Rattle.neigh.proofs.walk.leave_out.Given as goal

abbrev pub invariant-loop-place : goal.invariant-loop-place
invariant-loop-place l = record {
  same : l.rest.items ≡ l.fn.rest.items;
  none : (j : ℕ) → j < l.place → get_or l.rest.items j 0 ≡ l.city → ⊥;
}
