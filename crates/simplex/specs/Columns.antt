-- The columns of a program: distinct pairs of its cities.
use Rattle.std.specs.Prelude.{ℕ, Bool, List, map}
use Rattle.cyc.specs.declared.frac.Entry.{Entry}
use Rattle.cyc.specs.Frac.{Values, is_listed, value_of, AreEntries}
use Rattle.lpcheck.specs.declared.column.Column.{Column}

-- n cities, and some columns over them
pub record Pairs : Type 0 where
  pub n : ℕ
  pub cols : List Column

-- the entry of a column's pair
abbrev pub blank : Column → Entry
blank c = record { u = c.u; v = c.v; x = 0 }

-- the entry of the same pair with no value
abbrev pub unvalued : Entry → Entry
unvalued e = record { u = e.u; v = e.v; x = 0 }

-- distinct pairs of n cities
abbrev pub AreColumns : ℕ → List Column → Type 0
AreColumns n cols = AreEntries n (map blank cols)

-- one of the columns is of this pair, in either order
abbrev pub is_col : List Column → ℕ → ℕ → Bool
is_col cols u v = is_listed (map blank cols) u v

-- the value of each column's pair
abbrev pub values_at : Values → List Column → List ℕ
values_at x cols = map (λ c. value_of x.entries c.u c.v) cols
