use Rattle.std.proofs.Common.{◌≡◌, ◌+◌, ◌^◌, ◌<◌, length}
use Rattle.std.specs.Str.Parse.{digits_value, digits_value_after}
use Rattle.certline.specs.Spelling.{digits, behind_digits}
use Rattle.certline.proofs.digits.digits_of.Given as goal

abbrev pub invariant-loop-value : goal.invariant-loop-value
invariant-loop-value l = record {
  value : digits_value_after 10 l.value (digits l.rest) ≡ digits_value 10 (digits l.bytes);
  small : l.value < 10 ^ 19;
  count : l.count + length (digits l.rest) ≡ length (digits l.bytes);
  behind : behind_digits l.rest ≡ behind_digits l.bytes;
  room : l.count + length l.rest ≡ length l.bytes;
}

abbrev pub decreases-loop-value : goal.decreases-loop-value
decreases-loop-value l = length l.rest
