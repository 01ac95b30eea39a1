-- What adding cuts does to a node's relaxation.
use Rattle.std.specs.Prelude.{◌≡◌, ℕ, ◌+◌, ◌<◌, ◌≤◌, ◌⊎◌, true, false, List, [], ◌∷◌, ◌++◌, length, map, drop}
use Rattle.tspdef.specs.Cuts.{Cut}
use Rattle.tspdef.specs.Paths.{Condition}
use Rattle.tspdef.specs.Instances.{Instance}
use Rattle.cyc.specs.Frac.{value_of}
use Rattle.lpcheck.specs.Added.{any_missed}
use Rattle.lpcheck.specs.declared.row.Row.{Row}
use Rattle.nodelp.specs.Shapes.{shape_of, cut_shape}
use Rattle.nodelp.specs.Cuts.{is_listed, put}
use Rattle.nodelp.specs.Node.{Node, IsNodeLp, entries_in}

-- a row of a new cut is last, and the cut is in its place
pub record IsNewRow (c : Cut) (before after : Node) (row : Row) : Type 0 where
  pub shape : shape_of row ≡ cut_shape c
  pub new : is_listed before.cuts c ≡ false
  pub program : after.program ≡ record before.program { rows = before.program.rows ++ row ∷ [] }
  pub cuts : after.cuts ≡ put (c, length before.program.rows) before.cuts

-- a cut that is there is passed over
pub record IsThere (c : Cut) (before after : Node) : Type 0 where
  pub listed : is_listed before.cuts c ≡ true
  pub same : after ≡ before

-- one of the two
abbrev pub IsAdded : Cut → Node → Node → Type 0
IsAdded c before after = IsThere c before after ⊎ ((row : Row) × IsNewRow c before after row)

-- from before to after so many cuts were gone through
pub record AreAdded (many : ℕ) (before after : Node) : Type 0 where
  pub kept : (i : Instance) (path : List Condition) → IsNodeLp i path before → IsNodeLp i path after
  pub others : after.program ≡ record before.program { rows = after.program.rows }
  pub longer : length before.program.rows ≤ length after.program.rows
  pub most : length after.program.rows ≤ length before.program.rows + many
  pub start : many ≡ 0 → after ≡ before
  pub missed : 0 < many → any_missed before.program.cols (map (λ c. value_of (entries_in before.program.last) c.u c.v) before.program.cols) (drop (length before.program.rows) after.program.rows) ≡ true

-- from before to after rows of cuts were added, so many at most, whatever the newest values are
pub record AreFurther (many : ℕ) (before after : Node) : Type 0 where
  pub kept : (i : Instance) (path : List Condition) → IsNodeLp i path before → IsNodeLp i path after
  pub others : after.program ≡ record before.program { rows = after.program.rows }
  pub most : length after.program.rows ≤ length before.program.rows + many
