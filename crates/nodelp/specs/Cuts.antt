-- Cuts in their rising order, each with the place of its row.
use Rattle.std.specs.Prelude.{◌≡◌, ℕ, Bool, false, cond, ◌||◌, List, [], ◌∷◌, map, Some, slice_get}
use Rattle.std.specs.List.{AllByRecursion}
use Rattle.std.specs.Ordering.{is_eq, is_lt}
use Rattle.tspdef.specs.Cuts.{Cut, IsCut, cut_cmp}
use Rattle.tspdef.specs.Closings.{AreRisingCuts}
use Rattle.lpcheck.specs.declared.row.Row.{Row}
use Rattle.nodelp.specs.Shapes.{shape_of, cut_shape}

-- the row at the place is that of the cut
abbrev pub IsRowOf : List Row → Cut × ℕ → Type 0
IsRowOf rows q = slice_get (map shape_of rows) q.1 ≡ Some (cut_shape q.0)

-- cuts of n cities that rise strictly, each with a row
pub record AreCutRows (n : ℕ) (rows : List Row) (cuts : List (Cut × ℕ)) : Type 0 where
  pub rising : AreRisingCuts cuts
  pub each : AllByRecursion (λ q. IsCut n q.0) cuts
  pub placed : AllByRecursion (IsRowOf rows) cuts

-- one of the cuts is this one
abbrev pub is_listed : List (Cut × ℕ) → Cut → Bool
is_listed [] c = false
is_listed (q ∷ qs) c = is_eq (cut_cmp c q.0) || is_listed qs c

-- a further cut in its place
abbrev pub put : Cut × ℕ → List (Cut × ℕ) → List (Cut × ℕ)
put p [] = p ∷ []
put p (q ∷ qs) = cond (is_lt (cut_cmp p.0 q.0)) (p ∷ q ∷ qs) (q ∷ put p qs)
