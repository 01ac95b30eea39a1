-- The fields of values on pairs: the entries, and their table.
use Rattle.std.specs.Prelude.{◌≤◌}
use Rattle.cyc.specs.Frac.{Values, AreEntries}
use Rattle.cyc.specs.Table.{IsTableOf}
use Rattle.cyc.specs.declared.frac.Frac.TheInside.{Inside}

-- what the fields list
abbrev pub values_of : Inside → Values
values_of x = record { n = x.n; entries = x.entries.items }

-- entries on 3 to 2,000 cities, and their table
pub record IsTabled (x : Inside) : Type 0 where
  pub many : 3 ≤ x.n
  pub few : x.n ≤ 2000
  pub entries : AreEntries x.n x.entries.items
  pub table : IsTableOf x.n x.entries.items x.table.items
