-- Odd cuts by the tests that they pass.
use Rattle.std.proofs.Common.{ℕ, ◌≤◌, List, length}
use Rattle.tspdef.specs.Sets.{IsProper}
use Rattle.tspdef.specs.Cuts.{IsOdd, most_pairs}
use Rattle.cutform.specs.Odds.{AreApart, IsOddMany, EachCrosses}

-- the tests together make an odd cut
pub odd_from_parts : (n : ℕ) (h : List ℕ) (ps : List (ℕ × ℕ)) → IsProper n h → IsOddMany ps → AreApart n ps → EachCrosses h ps → length ps ≤ most_pairs → IsOdd n h ps
odd_from_parts n h ps p o a x f = record {
  proper = p;
  odd = o;
  few = f;
  below = a.below;
  rising = a.rising;
  crossed = x;
}
