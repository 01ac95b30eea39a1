use Rattle.std.proofs.Common.{◌≡◌, drop}
use Rattle.wording.specs.Rows.{number_from}
use Rattle.wording.proofs.rows.number_of.Given as goal

-- what is left leads from here to the end
abbrev pub invariant-loop-digit : goal.invariant-loop-digit
invariant-loop-digit l = number_from l.number (drop l.digit-index l.digits) ≡ number_from 0 l.digits
