use Rattle.std.proofs.Common.{◌≡◌, ◌++◌, drop}
use Rattle.sepodd.specs.Folding.{folded_entries}
use Rattle.sepodd.proofs.folding.folded_list.Given as goal

abbrev pub invariant-loop-entry : goal.invariant-loop-entry
invariant-loop-entry l = l.all.items ++ folded_entries (drop l.entry-index l.entries) ≡ folded_entries l.entries
