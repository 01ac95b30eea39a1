-- The cuts of a closing in groups, and marks on cities for each group.
use Rattle.std.specs.Prelude.{◌≡◌, ℕ, Bool, false, List, Some, pos, take, drop, zero, suc}
use Rattle.tspdef.specs.Cuts.{Cut}
use Rattle.tspdef.specs.Bounds.{cut_rows}
use Rattle.pricer.specs.Marks.{is_marked}
use Rattle.pricer.specs.Prices.{held}

-- n marks for each of some groups of cuts, one group after the other: a city that is not marked in a group shares no dual of
-- the group's cuts
abbrev pub AreGrouped : ℕ → ℕ → ℕ → List Bool → List (Cut × ℕ) → Type 0
AreGrouped n size zero marks cuts = Unit
AreGrouped n size (suc k) marks cuts =
    ((v : ℕ) → is_marked (take n marks) v ≡ false → (c : ℕ) → held (Some v) (cut_rows (take size cuts)) c ≡ pos 0)
    × AreGrouped n size k (drop n marks) (drop size cuts)
