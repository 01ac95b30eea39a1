-- Rows that an answer misses, and columns that would enter.
use Rattle.std.specs.Prelude.{ℕ, ◌^◌, Bool, false, not, ◌||◌, nat_lt, List, [], ◌∷◌, ℤ, pos}
use Rattle.std.specs.Int.Signed.{lt_z}
use Rattle.lpcheck.specs.Rows.{reduced}
use Rattle.lpcheck.specs.Answers.{miss}
use Rattle.lpcheck.specs.declared.row.Row.{Row}
use Rattle.lpcheck.specs.declared.column.Column.{Column}

-- one of the rows is missed by 2^10 units or more
abbrev pub any_missed : List Column → List ℕ → List Row → Bool
any_missed cols xs [] = false
any_missed cols xs (row ∷ rows) = not (nat_lt (miss cols xs row) (2 ^ 10)) || any_missed cols xs rows

abbrev pub any_below : List ℤ → Bool
any_below [] = false
any_below (r ∷ rs) = lt_z r (pos 0) || any_below rs

-- one of the columns has a negative reduced cost
abbrev pub any_negative : List Row → List ℤ → List Column → Bool
any_negative rows ys [] = false
any_negative rows ys (c ∷ cs) = lt_z (reduced rows ys c) (pos 0) || any_negative rows ys cs
