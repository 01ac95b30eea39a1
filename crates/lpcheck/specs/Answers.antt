-- What an answer of a linear program is worth: its fault and its gap.
use Rattle.std.specs.Prelude.{ℕ, ◌+◌, ◌-◌, ◌*◌, ◌^◌, ◌<◌, max, Bool, cond, List, [], ◌∷◌, ℤ, pos, ◌-ℤ◌, ◌<ℤ◌}
use Rattle.tspdef.specs.Bounds.{scale}
use Rattle.lpcheck.specs.Rows.{coef, lower_side}
use Rattle.lpcheck.specs.declared.row.Sense.{Sense}
use Rattle.lpcheck.specs.declared.row.Sense.TheVariants.{Eq, AtLeast, AtMost}
use Rattle.lpcheck.specs.declared.row.Row.{Row}
use Rattle.lpcheck.specs.declared.column.Column.{Column}

-- the sum of value * coefficient over the columns, whose values are listed in their order
abbrev pub activity : Row → List Column → List ℕ → ℕ
activity row (c ∷ cs) (x ∷ xs) = x * coef row c.u c.v + activity row cs xs
activity row (c ∷ cs) [] = 0
activity row [] xs = 0

-- how far a is from meeting the right side b
abbrev pub short : Sense → ℕ → ℕ → ℕ
short Eq a b = (a - b) + (b - a)
short AtLeast a b = b - a
short AtMost a b = a - b

-- how far the values are from meeting the row
abbrev pub miss : List Column → List ℕ → Row → ℕ
miss cols xs row = short row.sense (activity row cols xs) (scale * row.rhs)

-- how far a value is from 0 to SCALE, or from SCALE alone
abbrev pub box_miss : Bool → ℕ → ℕ
box_miss must x = cond must ((x - scale) + (scale - x)) (x - scale)

abbrev pub rows_fault : List Column → List ℕ → List Row → ℕ
rows_fault cols xs [] = 0
rows_fault cols xs (row ∷ rows) = max (miss cols xs row) (rows_fault cols xs rows)

abbrev pub boxes_fault : List Column → List ℕ → ℕ
boxes_fault (c ∷ cs) (x ∷ xs) = max (box_miss c.must x) (boxes_fault cs xs)
boxes_fault (c ∷ cs) [] = 0
boxes_fault [] xs = 0

-- the greatest miss of a row or a box
abbrev pub fault : List Row → List Column → List ℕ → ℕ
fault rows cols xs = max (rows_fault cols xs rows) (boxes_fault cols xs)

-- the sum of cost * value
abbrev pub cost : List Column → List ℕ → ℕ
cost (c ∷ cs) (x ∷ xs) = c.cost * x + cost cs xs
cost (c ∷ cs) [] = 0
cost [] xs = 0

-- the greatest cost, 0 without columns
abbrev pub dearest : List Column → ℕ
dearest [] = 0
dearest (c ∷ cs) = max c.cost (dearest cs)

-- the cost less the lower side
abbrev pub gap : List Row → List Column → List ℕ → List ℤ → ℤ
gap rows cols xs ys = pos (cost cols xs) -ℤ lower_side rows cols ys

-- a gap below this is narrow
abbrev pub limit : List Column → ℕ
limit cols = 2 ^ 10 * (1 + dearest cols)

-- nearly feasible, and nearly least
pub record IsGood (rows : List Row) (cols : List Column) (xs : List ℕ) (ys : List ℤ) : Type 0 where
  pub near : fault rows cols xs < 2 ^ 10
  pub tight : gap rows cols xs ys <ℤ pos (limit cols)
