-- What contracts see of a path.
use Rattle.std.specs.Prelude.{ℕ, Bool, false, List, [], ◌∷◌}
use Rattle.tspdef.specs.Paths.{Condition}
use Rattle.branchx.specs.Cond.{is_fixed}

-- conditions on tours of n cities, from the root on
pub record Conditions : Type 0 where
  pub n : ℕ
  pub conditions : List Condition

-- the last condition is a fixed pair
abbrev pub ends_in_fixed : List Condition → Bool
ends_in_fixed [] = false
ends_in_fixed (c ∷ []) = is_fixed c
ends_in_fixed (c ∷ d ∷ ds) = ends_in_fixed (d ∷ ds)
