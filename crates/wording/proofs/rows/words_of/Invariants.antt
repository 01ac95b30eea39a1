use Rattle.std.proofs.Common.{◌≡◌, drop}
use Rattle.wording.specs.Rows.{words_of}
use Rattle.wording.proofs.rows.words_of.Given as goal

-- no row so far is of the status
abbrev pub invariant-loop-row : goal.invariant-loop-row
invariant-loop-row l = words_of (drop l.row-index l.rows) l.status ≡ words_of l.rows l.status
