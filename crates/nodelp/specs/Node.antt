-- The linear relaxation of one node of a search.
use Rattle.std.specs.Prelude.{◌≡◌, ℕ, ◌+◌, ◌^◌, ◌<◌, ◌≤◌, true, false, List, [], length, map, take, ℤ, pos, ◌≤ℤ◌, Option, Some, None}
use Rattle.std.specs.List.{AllByRecursion}
use Rattle.tspdef.specs.Cuts.{Cut}
use Rattle.tspdef.specs.Bounds.{violation}
use Rattle.tspdef.specs.Paths.{Condition, is_absent, is_present, is_decided}
use Rattle.tspdef.specs.Instances.{Instance, dist}
use Rattle.cyc.specs.declared.frac.Entry.{Entry}
use Rattle.cyc.specs.Frac.{value_of}
use Rattle.lpcheck.specs.Rows.{reduced}
use Rattle.lpcheck.specs.declared.column.Column.{Column}
use Rattle.simplex.specs.Columns.{AreColumns, is_col}
use Rattle.simplex.specs.Lp.{Program, IsAnswer, values_in}
use Rattle.simplex.specs.declared.answer.LpAnswer.{LpAnswer}
use Rattle.simplex.specs.declared.answer.LpAnswer.TheVariants.{Solved, Rough}
use Rattle.nodelp.specs.Shapes.{shape_of, first_shapes}
use Rattle.nodelp.specs.Cuts.{AreCutRows}

-- a linear program, and its cuts, each with the place of its row
pub record Node : Type 0 where
  pub program : Program
  pub cuts : List (Cut × ℕ)

-- a pair that the path does not forbid, with its distance, and fixed at 1 where the path wants it
pub record IsColumn (i : Instance) (path : List Condition) (c : Column) : Type 0 where
  pub ordered : c.u < c.v
  pub within : c.v < i.n
  pub cost : c.cost ≡ dist i c.u c.v
  pub must : c.must ≡ is_present path c.u c.v
  pub free : is_absent path c.u c.v ≡ false

-- the core: distinct pairs, among them each that the path wants
pub record IsCore (i : Instance) (path : List Condition) (cols : List Column) : Type 0 where
  pub distinct : AreColumns i.n cols
  pub each : AllByRecursion (IsColumn i path) cols
  pub wanted : (u v : ℕ) → u < v → v < i.n → is_present path u v ≡ true → is_col cols u v ≡ true

-- the relaxation of a node: first the rows of the cities and of the path, and behind them one for each cut; and the core
pub record IsNodeLp (i : Instance) (path : List Condition) (node : Node) : Type 0 where
  pub cities : node.program.n ≡ i.n
  pub first : take (length (first_shapes i.n path)) (map shape_of node.program.rows) ≡ first_shapes i.n path
  pub cuts : AreCutRows i.n node.program.rows node.cuts
  pub behind : AllByRecursion (λ q. length (first_shapes i.n path) ≤ q.1) node.cuts
  pub all : length (first_shapes i.n path) + length node.cuts ≡ length node.program.rows
  pub core : IsCore i path node.program.cols

-- nothing was added since the newest solve, whose answer is of all rows and columns
pub record IsClean (p : Program) : Type 0 where
  pub old_rows : p.old_rows ≡ length p.rows
  pub old_cols : p.old_cols ≡ length p.cols
  pub answer : (a : LpAnswer) × (p.last ≡ Some a) × IsAnswer p.n p.rows p.cols a

-- an answer is Solved
abbrev pub HasSolved : Option LpAnswer → Type 0
HasSolved (Some (Solved x duals gap)) = Unit {0}
HasSolved (Some (Rough x duals fault gap)) = ⊥
HasSolved None = ⊥

-- the values of an answer
abbrev pub entries_in : Option LpAnswer → List Entry
entries_in (Some a) = (values_in a).entries
entries_in None = []

-- the newest values miss the cut by 2^10 units or more
abbrev pub IsMissed : Program → Cut → Type 0
IsMissed p c = pos (2 ^ 10) ≤ℤ violation (value_of (entries_in p.last)) p.n c

-- a pair as a column would have it
abbrev pub column_of : Instance → ℕ → ℕ → Column
column_of i u v = record { u = u; v = v; cost = dist i u v; must = false }

-- no undecided pair without a column has a negative reduced cost
abbrev pub IsPriced : Instance → List Condition → Program → List ℤ → Type 0
IsPriced i path p ys = (u v : ℕ) → u < v → v < i.n → is_decided path u v ≡ false → is_col p.cols u v ≡ false → pos 0 ≤ℤ reduced p.rows ys (column_of i u v)
