use Rattle.std.proofs.Common.{◌≡◌, drop}
use Rattle.wording.specs.Rows.{said}
use Rattle.wording.proofs.explaining.said.Given as goal

-- no row so far is one that the line is of
abbrev pub invariant-loop-row : goal.invariant-loop-row
invariant-loop-row l = said l.kind (drop l.row-index l.rows) l.line ≡ said l.kind l.rows l.line
