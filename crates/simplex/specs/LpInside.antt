-- The fields of a program.
use Rattle.std.specs.Prelude.{◌≡◌, ℕ, ◌≤◌, List, length, take, ℤ, Option, Some, None}
use Rattle.std.specs.List.{All}
use Rattle.lpcheck.specs.Rows.{IsSmall}
use Rattle.lpcheck.specs.Cells.{table_of}
use Rattle.lpcheck.specs.declared.row.Row.{Row}
use Rattle.lpcheck.specs.declared.column.Column.{Column}
use Rattle.simplex.specs.Lp.{Program, IsAnswer, duals_in}
use Rattle.simplex.specs.declared.answer.LpAnswer.{LpAnswer}
use Rattle.simplex.specs.declared.lp.Lp.TheInside.{Inside}

abbrev pub program_of : Inside → Program
program_of p = record { n = p.n; rows = p.rows.items; cols = p.columns.cols; old_rows = p.old_rows; old_cols = p.old_cols; rounds = p.rounds; last = p.last }

-- the newest answer, with its duals, is of the rows and columns that there were
abbrev pub IsNewest : ℕ → List Row → List Column → List ℤ → Option LpAnswer → Type 0
IsNewest n rows cols ys None = Unit {0}
IsNewest n rows cols ys (Some a) = IsAnswer n rows cols a × (duals_in a ≡ ys)

pub record IsKept (p : Inside) : Type 0 where
  pub many : 3 ≤ p.n
  pub few : p.n ≤ 2000
  pub cities : p.columns.n ≡ p.n
  pub small : All IsSmall p.rows.items
  pub few_rows : length p.rows.items ≤ 4194304
  pub old_rows : p.old_rows ≤ length p.rows.items
  pub old_cols : p.old_cols ≤ length p.columns.cols
  pub tabled_rows : length p.table.items ≤ length p.rows.items
  pub tabled_cols : p.tabled_cols ≤ length p.columns.cols
  pub table : p.table.items ≡ table_of (take (length p.table.items) p.rows.items) (take p.tabled_cols p.columns.cols)
  pub newest : IsNewest p.n (take p.old_rows p.rows.items) (take p.old_cols p.columns.cols) p.old_duals.items p.last
