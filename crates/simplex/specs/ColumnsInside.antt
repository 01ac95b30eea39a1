-- The fields of columns: the list, and a table of their pairs.
use Rattle.std.specs.Prelude.{◌≡◌, ◌≤◌, nat_lt, count_by, length, map}
use Rattle.cyc.specs.Table.{IsTableOf}
use Rattle.simplex.specs.Columns.{Pairs, blank, AreColumns}
use Rattle.simplex.specs.declared.columns.Columns.TheInside.{Inside}

abbrev pub pairs_of : Inside → Pairs
pairs_of p = record { n = p.n; cols = p.cols.items }

-- distinct pairs, exactly these marked, and as many marks as columns
pub record AreKept (p : Inside) : Type 0 where
  pub few : p.n ≤ 2000
  pub distinct : AreColumns p.n p.cols.items
  pub table : IsTableOf p.n (map blank p.cols.items) p.table.items
  pub count : count_by (λ c. nat_lt 0 c) p.table.items ≡ length p.cols.items
