use Rattle.std.proofs.Common.{◌≡◌, ◌≤◌, length}
use Rattle.tsplex.specs.Text.{tokens_from}
use Rattle.tsplex.proofs.text.behind_blanks.Given as goal

abbrev pub invariant-loop-byte : goal.invariant-loop-byte
invariant-loop-byte l = record {
  same : tokens_from l.line l.rest ≡ tokens_from l.line l.bytes;
  room : length l.rest ≤ length l.bytes;
}

abbrev pub decreases-loop-byte : goal.decreases-loop-byte
decreases-loop-byte l = length l.rest
