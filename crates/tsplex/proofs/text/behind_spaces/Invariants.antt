use Rattle.std.proofs.Common.{◌≡◌, ◌+◌, ◌≤◌, length}
use Rattle.tsplex.specs.Text.{tokens_from, from_word}
use Rattle.tsplex.proofs.text.behind_spaces.Given as goal

abbrev pub invariant-loop-byte : goal.invariant-loop-byte
invariant-loop-byte l = record {
  same : tokens_from l.here l.rest ≡ tokens_from l.line l.bytes;
  from : from_word l.rest ≡ from_word l.bytes;
  room : l.here + length l.rest ≤ l.line + length l.bytes;
}

abbrev pub decreases-loop-byte : goal.decreases-loop-byte
decreases-loop-byte l = length l.rest
