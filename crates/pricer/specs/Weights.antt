-- How much the duals of cuts weigh: no sum of them at a city is more.
use Rattle.std.specs.Prelude.{◌≡◌, ℕ, ◌+◌, ◌*◌, ◌^◌, ◌≤◌, List, [], ◌∷◌, length}
use Rattle.tspdef.specs.Cuts.{Cut, sets_of}
use Rattle.tspdef.specs.Closings.{Closing}

-- each dual once, and once more for each set of its cut
abbrev pub weight : List (Cut × ℕ) → ℕ
weight [] = 0
weight (q ∷ qs) = q.1 * (1 + length (sets_of q.0)) + weight qs

-- the cuts' duals are small, and no condition has one
pub record IsLight (c : Closing) : Type 0 where
  pub bare : c.conds ≡ []
  pub small : weight c.cuts ≤ 2 ^ 46
