-- The square table of some entries.
use Rattle.std.specs.Prelude.{◌≡◌, ℕ, ◌+◌, ◌*◌, ◌<◌, ◌≤◌, cond, List, length, slice_index}
use Rattle.cyc.specs.declared.frac.Entry.{Entry}
use Rattle.cyc.specs.Frac.{value_of, is_listed}

-- one more than the value of a pair that is listed, and 0 for others
abbrev pub mark_of : List Entry → ℕ → ℕ → ℕ
mark_of es u v = cond (is_listed es u v) (value_of es u v + 1) 0

-- a table of n by n with the mark of each pair u ≤ v in row u
pub record IsTableOf (n : ℕ) (es : List Entry) (table : List ℕ) : Type 0 where
  pub size : length table ≡ n * n
  pub marks : (u v : ℕ) → u ≤ v → v < n → slice_index table (u * n + v) ≡ mark_of es u v
