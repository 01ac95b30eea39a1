use Rattle.std.proofs.Common.{◌≡◌, drop}
use Rattle.wording.specs.LastLine.{line_of, with_bytes}
use Rattle.wording.proofs.last_line.LastLine.add.Given as goal

-- what is left leads from here to the end
abbrev pub invariant-loop-byte : goal.invariant-loop-byte
invariant-loop-byte l = with_bytes (line_of l.self) (drop l.byte-index l.bytes) ≡ with_bytes (line_of l.fn.self) l.bytes
