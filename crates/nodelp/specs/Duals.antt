-- The closing that the newest duals make.
use Rattle.std.specs.Prelude.{ℕ, ◌+◌, List, [], ◌∷◌, map, take, ℤ, pos, slice_index_or, Option, Some, None}
use Rattle.tspdef.specs.Cuts.{Cut}
use Rattle.tspdef.specs.Paths.{Condition, fixed, absent, present, two, four}
use Rattle.tspdef.specs.Closings.{Closing}
use Rattle.simplex.specs.Lp.{duals_in}
use Rattle.simplex.specs.declared.answer.LpAnswer.{LpAnswer}
use Rattle.pricer.specs.Rounds.{rounded}
use Rattle.nodelp.specs.Node.{Node}

-- the dual of the row at a place
abbrev pub dual_at : List ℤ → ℕ → ℤ
dual_at ys row = slice_index_or ys row (pos 0)

-- each cut with the dual of its row
abbrev pub cut_duals : List ℤ → List (Cut × ℕ) → List (Cut × ℤ)
cut_duals ys cuts = map (λ q. (q.0, dual_at ys q.1)) cuts

-- the depths of a path's conditions on sets with the duals of their rows, where the path begins at a depth and those rows
-- at a place; fixed pairs have no depth
abbrev pub clique_duals : List ℤ → ℕ → ℕ → List Condition → List (ℕ × ℤ)
clique_duals ys depth row [] = []
clique_duals ys depth row (fixed u v ∷ cs) = clique_duals ys depth row cs
clique_duals ys depth row (absent u v ∷ cs) = clique_duals ys (depth + 1) row cs
clique_duals ys depth row (present u v ∷ cs) = clique_duals ys (depth + 1) row cs
clique_duals ys depth row (two s ∷ cs) = (depth, dual_at ys row) ∷ clique_duals ys (depth + 1) (row + 1) cs
clique_duals ys depth row (four s ∷ cs) = (depth, dual_at ys row) ∷ clique_duals ys (depth + 1) (row + 1) cs

-- the closing of a node's duals: of its n cities, its cuts, and the conditions on sets of its path
abbrev pub closing_of : ℕ → List Condition → Node → List ℤ → Closing
closing_of n path node ys = rounded n (take n ys) (cut_duals ys node.cuts) (clique_duals ys 1 n path)

-- the duals of the newest answer
abbrev pub newest_duals : Option LpAnswer → List ℤ
newest_duals (Some a) = duals_in a
newest_duals None = []
