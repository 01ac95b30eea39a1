-- The table of coefficients: of each row, the columns that it has one of.
use Rattle.std.specs.Prelude.{ℕ, ◌+◌, ◌*◌, ◌==◌, ◌<◌, cond, false, List, [], ◌∷◌, map, ℤ, pos, ◌+ℤ◌, ◌-ℤ◌, ◌*ℤ◌, slice_index_or, slice_set}
use Rattle.std.specs.List.{All}
use Rattle.lpcheck.specs.Rows.{coef, term}
use Rattle.lpcheck.specs.declared.row.Row.{Row}
use Rattle.lpcheck.specs.declared.column.Column.{Column}
use Rattle.lpcheck.specs.declared.cells.Cell.{Cell}

-- the cells of a row over some columns, whose places begin at j
abbrev pub cells_from : ℕ → Row → List Column → List Cell
cells_from j row [] = []
cells_from j row (c ∷ cs) = cond (coef row c.u c.v == 0) (cells_from (j + 1) row cs) (record { column = j; coef = coef row c.u c.v } ∷ cells_from (j + 1) row cs)

abbrev pub cells_of : List Column → Row → List Cell
cells_of cols row = cells_from 0 row cols

abbrev pub table_of : List Row → List Column → List (List Cell)
table_of rows cols = map (cells_of cols) rows

-- each cell is of one of n columns
abbrev pub AreWithin : ℕ → List Cell → Type 0
AreWithin n cells = All (λ cell. cell.column < n) cells

-- the sum of value * coefficient over the cells
abbrev pub dot : List Cell → List ℕ → ℕ
dot [] xs = 0
dot (cell ∷ cells) xs = slice_index_or xs cell.column 0 * cell.coef + dot cells xs

-- d times its coefficient is taken off the number of each cell's column
abbrev pub lowered : ℤ → List Cell → List ℤ → List ℤ
lowered d [] rs = rs
lowered d (cell ∷ cells) rs = lowered d cells (slice_set rs cell.column (slice_index_or rs cell.column (pos 0) -ℤ d *ℤ pos cell.coef))

abbrev pub no_column : Column
no_column = record { u = 0; v = 0; cost = 0; must = false }

-- what columns of these reduced costs add to the lower side
abbrev pub lows : List Column → List ℤ → ℤ
lows (c ∷ cs) (r ∷ rs) = term c.must r +ℤ lows cs rs
lows (c ∷ cs) [] = pos 0
lows [] rs = pos 0
