-- Rows over sets of cities, columns, and the lower side of some duals: weak duality of a linear program whose variables
-- are between 0 and 1, in whole units.
use Rattle.std.specs.Prelude.{ℕ, ◌*◌, ◌^◌, ◌<◌, ◌≤◌, Bool, cond, List, [], ◌∷◌, length, map, ℤ, pos, ◌+ℤ◌, ◌-ℤ◌, ◌*ℤ◌}
use Rattle.std.specs.Int.{int_min}
use Rattle.tspdef.specs.Bounds.{scale}
use Rattle.tspdef.specs.Cuts.{coefficient}
use Rattle.cyc.specs.CitySet.{Members}
use Rattle.lpcheck.specs.declared.row.Sense.{Sense}
use Rattle.lpcheck.specs.declared.row.Sense.TheVariants.{Eq, AtLeast, AtMost}
use Rattle.lpcheck.specs.declared.row.Row.{Row}
use Rattle.lpcheck.specs.declared.column.Column.{Column}

abbrev pub cities_of_each : List Members → List (List ℕ)
cities_of_each sets = map (λ s. s.cities) sets

-- how many of the row's sets the pair crosses
abbrev pub coef : Row → ℕ → ℕ → ℕ
coef row u v = coefficient (cities_of_each row.sets.items) u v

-- an AtMost dual counts negative
abbrev pub signed : Sense → ℤ → ℤ
signed Eq y = y
signed AtLeast y = y
signed AtMost y = pos 0 -ℤ y

-- the sum of dual * coefficient over the rows that have a dual
abbrev pub price : List Row → List ℤ → ℕ → ℕ → ℤ
price (row ∷ rows) (y ∷ ys) u v = signed row.sense y *ℤ pos (coef row u v) +ℤ price rows ys u v
price (row ∷ rows) [] u v = pos 0
price [] ys u v = pos 0

-- the sum of dual * right side
abbrev pub worth : List Row → List ℤ → ℤ
worth (row ∷ rows) (y ∷ ys) = signed row.sense y *ℤ pos row.rhs +ℤ worth rows ys
worth (row ∷ rows) [] = pos 0
worth [] ys = pos 0

-- the cost of a column, in units, less what the duals take off it
abbrev pub reduced : List Row → List ℤ → Column → ℤ
reduced rows ys c = pos (scale * c.cost) -ℤ price rows ys c.u c.v

-- what a column of a reduced cost adds to the lower side
abbrev pub term : Bool → ℤ → ℤ
term must r = cond must r (int_min (pos 0) r)

abbrev pub low : List Row → List ℤ → List Column → ℤ
low rows ys [] = pos 0
low rows ys (c ∷ cs) = term c.must (reduced rows ys c) +ℤ low rows ys cs

abbrev pub lower_side : List Row → List Column → List ℤ → ℤ
lower_side rows cols ys = worth rows ys +ℤ low rows ys cols

-- a row of at most 4,096 sets
abbrev pub IsSmall : Row → Type 0
IsSmall row = length row.sets.items ≤ 4096

-- a column whose cost has 32 bits
abbrev pub IsCheap : Column → Type 0
IsCheap c = c.cost < 2 ^ 32
