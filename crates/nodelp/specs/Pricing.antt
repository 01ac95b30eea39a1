-- What is known of pairs that were gone through for a negative reduced cost.
use Rattle.std.specs.Prelude.{◌≡◌, ℕ, ◌<◌, false, List, ℤ, pos, ◌≤ℤ◌, slice_index_or, length}
use Rattle.tspdef.specs.Paths.{Condition, is_decided}
use Rattle.tspdef.specs.Instances.{Instance}
use Rattle.lpcheck.specs.Rows.{reduced}
use Rattle.lpcheck.specs.declared.row.Row.{Row}
use Rattle.simplex.specs.Columns.{is_col}
use Rattle.simplex.specs.Lp.{Program}
use Rattle.nodelp.specs.Node.{column_of}
use Rattle.nodelp.specs.Duals.{newest_duals}
use Rattle.nodelp.specs.Potentials.{potential}

-- if the pair is undecided and has no column, its reduced cost is not negative
abbrev pub IsPassed : Instance → List Condition → Program → ℕ → ℕ → Type 0
IsPassed i path p u v = is_decided path u v ≡ false → is_col p.cols u v ≡ false → pos 0 ≤ℤ reduced p.rows (newest_duals p.last) (column_of i u v)

-- the potential of each of n cities
pub record ArePotentials (n : ℕ) (rows : List Row) (ys ps : List ℤ) : Type 0 where
  pub long : length ps ≡ n
  pub each : (v : ℕ) → v < n → slice_index_or ps v (pos 0) ≡ potential rows ys v
