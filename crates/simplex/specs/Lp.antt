-- Linear programs over rows of city sets, and what their answers say.
use Rattle.std.specs.Prelude.{◌≡◌, ℕ, ◌+◌, ◌-◌, ◌^◌, Bool, true, false, cond, ◌||◌, min, List, length, take, drop, ℤ, pos, Option, Some, None}
use Rattle.cyc.specs.Frac.{Values, value_of}
use Rattle.lpcheck.specs.Answers.{IsGood}
use Rattle.lpcheck.specs.Answers as answers
use Rattle.lpcheck.specs.Rests.{AreDuals, AreAtRest}
use Rattle.lpcheck.specs.Added.{any_missed, any_negative}
use Rattle.lpcheck.specs.declared.row.Row.{Row}
use Rattle.lpcheck.specs.declared.column.Column.{Column}
use Rattle.simplex.specs.Columns.{is_col, values_at}
use Rattle.simplex.specs.declared.answer.LpAnswer.{LpAnswer}
use Rattle.simplex.specs.declared.answer.LpAnswer.TheVariants.{Solved, Rough}

-- n cities, the rows and the columns; how many of each there were at the newest solve; the solves that count; and the
-- newest answer
pub record Program : Type 0 where
  pub n : ℕ
  pub rows : List Row
  pub cols : List Column
  pub old_rows : ℕ
  pub old_cols : ℕ
  pub rounds : ℕ
  pub last : Option LpAnswer

abbrev pub values_in : LpAnswer → Values
values_in (Solved x duals gap) = x
values_in (Rough x duals fault gap) = x

abbrev pub duals_in : LpAnswer → List ℤ
duals_in (Solved x duals gap) = duals.items
duals_in (Rough x duals fault gap) = duals.items

-- values on the pairs of n cities, 0 off the columns, and one dual a row, within its sign and size
pub record AreOf (n : ℕ) (rows : List Row) (cols : List Column) (x : Values) (ys : List ℤ) : Type 0 where
  pub cities : x.n ≡ n
  pub off : (u v : ℕ) → is_col cols u v ≡ false → value_of x.entries u v ≡ 0
  pub duals : AreDuals rows ys

-- the answer is checked
pub record IsSolved (n : ℕ) (rows : List Row) (cols : List Column) (x : Values) (ys : List ℤ) (gap : ℤ) : Type 0 where
  pub parts : AreOf n rows cols x ys
  pub good : IsGood rows cols (values_at x cols) ys
  pub gap_is : gap ≡ answers.gap rows cols (values_at x cols) ys

-- it is not, and the duals are at rest
pub record IsRough (n : ℕ) (rows : List Row) (cols : List Column) (x : Values) (ys : List ℤ) (fault gap : ℤ) : Type 0 where
  pub parts : AreOf n rows cols x ys
  pub bad : ¬ IsGood rows cols (values_at x cols) ys
  pub rests : AreAtRest rows cols ys
  pub fault_is : fault ≡ pos (answers.fault rows cols (values_at x cols))
  pub gap_is : gap ≡ answers.gap rows cols (values_at x cols) ys

abbrev pub IsAnswer : ℕ → List Row → List Column → LpAnswer → Type 0
IsAnswer n rows cols (Solved x duals gap) = IsSolved n rows cols x duals.items gap
IsAnswer n rows cols (Rough x duals fault gap) = IsRough n rows cols x duals.items fault gap

-- a row was added that the newest values miss by 2^10 units or more, or a column of negative reduced cost at the newest duals
abbrev pub is_new_to : Program → LpAnswer → Bool
is_new_to p a = any_missed p.cols (values_at (values_in a) p.cols) (drop p.old_rows p.rows) || any_negative (take p.old_rows p.rows) (duals_in a) (drop p.old_cols p.cols)

-- whether a solve counts: the first one does, and one where something new came in
abbrev pub is_counted : Program → Bool
is_counted p = elim p.last as (λ _. Bool) [ None ↦ true | Some a ↦ is_new_to p a ]

-- what a solve leaves
pub record IsSolve (before after : Program) : Type 0 where
  pub n : after.n ≡ before.n
  pub rows : after.rows ≡ before.rows
  pub cols : after.cols ≡ before.cols
  pub old_rows : after.old_rows ≡ length before.rows
  pub old_cols : after.old_cols ≡ length before.cols
  pub rounds : after.rounds ≡ cond (is_counted before) (min (before.rounds + 1) (2 ^ 32 - 1)) before.rounds
  pub answer : (a : LpAnswer) × (after.last ≡ Some a) × IsAnswer after.n after.rows after.cols a
