-- The lower bound of a closing: weak duality of the degree, cut and clique rows in whole numbers
-- (Dantzig, Fulkerson and Johnson 1954; Applegate, Bixby, Chvátal and Cook), summed over all pairs.
use Rattle.std.specs.Prelude.{ℕ, ◌*◌, ◌^◌, cond, List, [], ◌∷◌, ℤ, pos, ◌+ℤ◌, ◌-ℤ◌, Option, Some, None, slice_index_or}
use Rattle.std.specs.Int.{int_min}
use Rattle.tspdef.specs.Sums.{sum_below, sum_pairs}
use Rattle.tspdef.specs.Instances.{Instance, dist}
use Rattle.tspdef.specs.Cuts.{Cut, sets_of, right_side, coefficient}
use Rattle.tspdef.specs.Paths.{Condition, fixed, absent, present, two, four, is_absent, is_present, condition_at}
use Rattle.tspdef.specs.Closings.{Closing}

-- how many units one length is
abbrev pub scale : ℕ
scale = 2 ^ 20

-- A priced row: the crossings of its sets add up to its right side, at least or exactly. The dual comes last.
pub data Row : Type 0 where
  at_least : (sets : List (List ℕ)) → (right : ℕ) → (dual : ℕ) → Row
  exactly : (sets : List (List ℕ)) → (right : ℕ) → (dual : ℕ) → Row

-- each cut is a row
abbrev pub cut_rows : List (Cut × ℕ) → List Row
cut_rows [] = []
cut_rows (q ∷ qs) = at_least (sets_of q.0) (right_side q.0) q.1 ∷ cut_rows qs

-- a set that is crossed exactly twice, or four times at least, is a row; other conditions have an empty one
abbrev pub condition_row : Option Condition → ℕ → Row
condition_row (Some (two s)) z = exactly (s ∷ []) 2 z
condition_row (Some (four s)) z = at_least (s ∷ []) 4 z
condition_row (Some (fixed u v)) z = at_least [] 0 z
condition_row (Some (absent u v)) z = at_least [] 0 z
condition_row (Some (present u v)) z = at_least [] 0 z
condition_row None z = at_least [] 0 z

-- each clique dual is a row of the condition at its depth
abbrev pub condition_rows : List Condition → List (ℕ × ℕ) → List Row
condition_rows path [] = []
condition_rows path (q ∷ qs) = condition_row (condition_at path q.0) q.1 ∷ condition_rows path qs

-- what the duals of rows take off the cost of a pair: an exact row's dual counts negative
abbrev pub price : List Row → ℕ → ℕ → ℤ
price [] u v = pos 0
price (at_least ss r y ∷ rows) u v = price rows u v +ℤ pos (y * coefficient ss u v)
price (exactly ss r y ∷ rows) u v = price rows u v -ℤ pos (y * coefficient ss u v)

-- what rows with their duals add to the bound
abbrev pub worth : List Row → ℤ
worth [] = pos 0
worth (at_least ss r y ∷ rows) = worth rows +ℤ pos (y * r)
worth (exactly ss r y ∷ rows) = worth rows -ℤ pos (y * r)

-- the dual of a city
abbrev pub city_dual : Closing → ℕ → ℤ
city_dual c v = slice_index_or c.city v (pos 0)

-- the reduced cost of a pair, in units
abbrev pub reduced_cost : Instance → List Condition → Closing → ℕ → ℕ → ℤ
reduced_cost i path c u v = pos (scale * dist i u v) -ℤ city_dual c u -ℤ city_dual c v -ℤ price (cut_rows c.cuts) u v -ℤ price (condition_rows path c.conds) u v

-- what a pair adds to the bound: a used pair its reduced cost, an unused one nothing, an undecided one the lesser of 0 and its reduced cost
abbrev pub pair_term : List Condition → (ℕ → ℕ → ℤ) → ℕ → ℕ → ℤ
pair_term path r u v = cond (is_present path u v) (r u v) (cond (is_absent path u v) (pos 0) (int_min (pos 0) (r u v)))

-- the bound of a closing on a path, in units, over all pairs
abbrev pub bound : Instance → List Condition → Closing → ℤ
bound i path c =
    sum_below (city_dual c) i.n +ℤ sum_below (city_dual c) i.n
    +ℤ worth (cut_rows c.cuts) +ℤ worth (condition_rows path c.conds)
    +ℤ sum_pairs (pair_term path (reduced_cost i path c)) i.n

-- what a leaf's bound must exceed so that no tour is shorter than l: the units of length l - 1
abbrev pub needed : ℕ → ℤ
needed l = pos (scale * l) -ℤ pos scale

-- by how much values x of the pairs, in units, miss a cut
abbrev pub violation : (ℕ → ℕ → ℕ) → ℕ → Cut → ℤ
violation x n c = pos (scale * right_side c) -ℤ sum_pairs (λ u v. pos (x u v * coefficient (sets_of c) u v)) n
