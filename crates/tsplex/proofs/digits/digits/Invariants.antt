use Rattle.std.proofs.Common.{◌≡◌, ℕ, ◌+◌, ◌≤◌, length}
use Rattle.std.specs.Str.Parse.{digits_value_after}
use Rattle.tsplex.specs.Number.{digits, behind_digits}
use Rattle.tsplex.specs.Digits.{Keeps}
use Rattle.tsplex.proofs.digits.digits.Given as goal

abbrev pub invariant-loop-digit : goal.invariant-loop-digit
invariant-loop-digit l = record {
  keeps : (v : ℕ) → Keeps l.fn.before.front l.fn.before.zeros v → (w : ℕ) × Keeps l.kept.front l.kept.zeros w × (digits_value_after 10 w (digits l.rest) ≡ digits_value_after 10 v (digits l.bytes));
  count : l.count + length (digits l.rest) ≡ length (digits l.bytes);
  behind : behind_digits l.rest ≡ behind_digits l.bytes;
  room : l.count + length l.rest ≡ length l.bytes;
  zeros : l.kept.zeros ≤ l.fn.before.zeros + l.count;
}

abbrev pub decreases-loop-digit : goal.decreases-loop-digit
decreases-loop-digit l = length l.rest
