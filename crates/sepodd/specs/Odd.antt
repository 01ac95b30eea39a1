-- Odd cuts of least weight (Edmonds 1965; Padberg and Rao 1982).
use Rattle.std.specs.Prelude.{◌≡◌, ℕ, ◌+◌, ◌*◌, ◌^◌, ◌<◌, ◌≤◌, true, ◌==◌, List, length, ℤ, pos, ◌+ℤ◌, ◌-ℤ◌, ◌≤ℤ◌}
use Rattle.std.specs.List.{AllByRecursion}
use Rattle.tspdef.specs.Sets.{has}
use Rattle.tspdef.specs.Bounds.{scale}
use Rattle.tspdef.specs.Cuts.{odd, IsOdd}
use Rattle.cyc.specs.Frac.{Values}
use Rattle.maxflow.specs.Crossings.{crossing_weight}
use Rattle.sepodd.specs.declared.OddCut.{OddCut}
use Rattle.sepodd.specs.Folding.{value_of_pairs}

-- The weight of an odd cut: the values of the pairs that cross its handle, where each of its own pairs counts for what it is
-- below one in place of its value. The cut is met where the weight is one at least, if each city has a degree of two.
abbrev pub odd_weight : Values → List ℕ → List (ℕ × ℕ) → ℤ
odd_weight x handle pairs = crossing_weight x (has handle) -ℤ pos (2 * value_of_pairs x.entries pairs) +ℤ pos (scale * length pairs)

-- no odd cut weighs less
abbrev pub IsBelowAll : Values → ℕ → Type 0
IsBelowAll x weight = (handle : List ℕ) (pairs : List (ℕ × ℕ)) → IsOdd x.n handle pairs → pos weight ≤ℤ odd_weight x handle pairs

-- An odd cut that has city 0 in its handle and exactly this weight, below one, and that is the least of all.
pub record IsLeastOdd (x : Values) (o : OddCut) : Type 0 where
  pub handle : List ℕ
  pub pairs : List (ℕ × ℕ)
  pub is_odd : IsOdd x.n handle pairs
  pub is_cut : o.cut ≡ odd x.n handle pairs
  pub home : has handle 0 ≡ true
  pub weighs : odd_weight x handle pairs ≡ pos o.weight
  pub light : o.weight < scale
  pub least : IsBelowAll x o.weight

-- no value is above one, and the values at a city add up to 2^10 units above two at most
pub record IsRelaxed (x : Values) : Type 0 where
  pub small : AllByRecursion (λ e. e.x ≤ scale) x.entries
  pub degrees : (k : ℕ) → k < x.n → crossing_weight x (λ j. j == k) ≤ℤ pos (2 * scale + 2 ^ 10)
