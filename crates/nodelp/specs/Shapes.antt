-- What the rows of a node's relaxation say, wherever their sets lie in memory.
use Rattle.std.specs.Prelude.{ℕ, zero, suc, List, [], ◌∷◌, ◌++◌, length}
use Rattle.tspdef.specs.Cuts.{Cut, sets_of, right_side}
use Rattle.tspdef.specs.Paths.{Condition, fixed, absent, present, two, four}
use Rattle.lpcheck.specs.Rows.{cities_of_each}
use Rattle.lpcheck.specs.declared.row.Sense.{Sense}
use Rattle.lpcheck.specs.declared.row.Sense.TheVariants.{Eq, AtLeast, AtMost}
use Rattle.lpcheck.specs.declared.row.Row.{Row}

-- how a sum of crossings stands to a right side, and the sets whose crossings are added up
pub record Shape : Type 0 where
  pub sense : Sense
  pub right : ℕ
  pub sets : List (List ℕ)

-- the shape of a row
abbrev pub shape_of : Row → Shape
shape_of row = record { sense = row.sense; right = row.rhs; sets = cities_of_each row.sets.items }

-- a city is left and entered: its pairs add up to exactly two
abbrev pub degree_shape : ℕ → Shape
degree_shape v = record { sense = Eq; right = 2; sets = (v ∷ []) ∷ [] }

-- the degree rows of the first n cities
abbrev pub degree_shapes : ℕ → List Shape
degree_shapes zero = []
degree_shapes (suc n) = degree_shapes n ++ degree_shape n ∷ []

-- a set that a path wants crossed twice at most; that it is crossed twice at least every tour sees to
abbrev pub two_shape : List ℕ → Shape
two_shape s = record { sense = AtMost; right = 2; sets = s ∷ [] }

-- a set that a path wants crossed four times at least
abbrev pub four_shape : List ℕ → Shape
four_shape s = record { sense = AtLeast; right = 4; sets = s ∷ [] }

-- the rows of a path's conditions on sets, in the path's order
abbrev pub clique_shapes : List Condition → List Shape
clique_shapes [] = []
clique_shapes (fixed u v ∷ cs) = clique_shapes cs
clique_shapes (absent u v ∷ cs) = clique_shapes cs
clique_shapes (present u v ∷ cs) = clique_shapes cs
clique_shapes (two s ∷ cs) = two_shape s ∷ clique_shapes cs
clique_shapes (four s ∷ cs) = four_shape s ∷ clique_shapes cs

-- how many conditions of a path are on sets
abbrev pub cliques : List Condition → ℕ
cliques path = length (clique_shapes path)

-- the rows that a node begins with: those of its cities and of its path
abbrev pub first_shapes : ℕ → List Condition → List Shape
first_shapes n path = degree_shapes n ++ clique_shapes path

-- the row of a cut
abbrev pub cut_shape : Cut → Shape
cut_shape c = record { sense = AtLeast; right = right_side c; sets = sets_of c }
