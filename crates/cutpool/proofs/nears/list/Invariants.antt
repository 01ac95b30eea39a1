use Rattle.std.proofs.Common.{take}
use Rattle.cutpool.specs.Nears.{AreRows}
use Rattle.cutpool.proofs.nears.list.Given as goal

abbrev pub invariant-loop-entry : goal.invariant-loop-entry
invariant-loop-entry l = AreRows (take l.entry-index l.entries) l.rows
