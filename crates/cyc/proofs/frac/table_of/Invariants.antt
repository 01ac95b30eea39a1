use Rattle.std.proofs.Common.{◌≡◌, take}
use Rattle.cyc.specs.Frac.{AreEntries}
use Rattle.cyc.specs.Table.{IsTableOf}
use Rattle.cyc.proofs.EntryLemmas.{marked}
use Rattle.cyc.proofs.frac.table_of.Given as goal

abbrev pub invariant-loop-place : goal.invariant-loop-place
invariant-loop-place l = record {
  entries : AreEntries l.n (take l.place l.entries);
  table : IsTableOf l.n (take l.place l.entries) l.table.items;
  count : marked l.table.items ≡ l.place;
}
