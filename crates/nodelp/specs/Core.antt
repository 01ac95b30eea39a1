-- How the core grows.
use Rattle.std.specs.Prelude.{◌≡◌, ℕ, ◌<◌, Bool, true, false, cond, List, [], ◌∷◌, ◌++◌, pos}
use Rattle.std.specs.List.{AllByRecursion}
use Rattle.std.specs.Int.Signed.{lt_z}
use Rattle.tspdef.specs.Paths.{Condition, fixed, absent, present, two, four, is_present, is_decided}
use Rattle.tspdef.specs.Instances.{Instance, dist}
use Rattle.lpcheck.specs.Rows.{reduced}
use Rattle.lpcheck.specs.declared.column.Column.{Column}
use Rattle.simplex.specs.Columns.{AreColumns, is_col}
use Rattle.simplex.specs.Lp.{Program}
use Rattle.nodelp.specs.Node.{IsColumn, column_of}
use Rattle.nodelp.specs.Duals.{newest_duals}

-- a pair is given a column, unless it has one
abbrev pub with_col : Instance → ℕ → ℕ → Bool → List Column → List Column
with_col i u v must cols = cond (is_col cols u v) cols (cols ++ record { u = u; v = v; cost = dist i u v; must = must } ∷ [])

-- the pair of a condition that wants it is given a column
abbrev pub with_wanted : Instance → Condition → List Column → List Column
with_wanted i (fixed u v) cols = with_col i u v true cols
with_wanted i (absent u v) cols = cols
with_wanted i (present u v) cols = with_col i u v true cols
with_wanted i (two s) cols = cols
with_wanted i (four s) cols = cols

-- a column of the core, whose pair the path wants
abbrev pub IsWanted : Instance → List Condition → Column → Type 0
IsWanted i path c = IsColumn i path c × (is_present path c.u c.v ≡ true)

-- exactly the pairs that the path wants
pub record AreWanted (i : Instance) (path : List Condition) (cols : List Column) : Type 0 where
  pub distinct : AreColumns i.n cols
  pub each : AllByRecursion (IsWanted i path) cols
  pub all : (u v : ℕ) → u < v → v < i.n → is_present path u v ≡ true → is_col cols u v ≡ true

-- an undecided pair without a column, of negative reduced cost at the newest duals
pub record IsNegative (i : Instance) (path : List Condition) (p : Program) (q : ℕ × ℕ) : Type 0 where
  pub ordered : q.0 < q.1
  pub within : q.1 < i.n
  pub open_pair : is_decided path q.0 q.1 ≡ false
  pub fresh : is_col p.cols q.0 q.1 ≡ false
  pub negative : lt_z (reduced p.rows (newest_duals p.last) (column_of i q.0 q.1)) (pos 0) ≡ true
