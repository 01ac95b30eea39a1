use Rattle.std.proofs.Common.{◌≡◌, ◌++◌, drop}
use Rattle.grunt.specs.Odds.{lowered_entries}
use Rattle.grunt.proofs.odd.lowered.Given as goal

abbrev pub invariant-loop-entry : goal.invariant-loop-entry
invariant-loop-entry l = l.all.items ++ lowered_entries (drop l.entry-index l.entries) ≡ lowered_entries l.entries
