use Rattle.std.proofs.Common.{◌≡◌, ℕ, Bool, length}
use Rattle.cutpool.specs.Nears.{row_weight}
use Rattle.cutpool.proofs.nears.empty_rows.Given as goal

abbrev pub invariant-loop : goal.invariant-loop
invariant-loop l = record {
  long : length l.rows.items ≡ l.counter;
  empty : (c : ℕ) (p : ℕ → Bool) → row_weight l.rows.items c p ≡ 0;
}
