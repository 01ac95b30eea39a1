-- Why a handle and pairs are no odd cut, in the order in which it is told.
use Rattle.std.specs.Prelude.{◌≡◌, ℕ, ◌%◌, ◌<◌, ◌≤◌, true, List, length}
use Rattle.std.specs.List.{AllByRecursion}
use Rattle.tspdef.specs.Sets.{has, IsProper}
use Rattle.tspdef.specs.Tours.{crosses}
use Rattle.tspdef.specs.Fixed.{AreRisingPairs}
use Rattle.tspdef.specs.Cuts.{most_pairs}
use Rattle.cutform.specs.declared.error.CutError.{CutError}
use Rattle.cutform.specs.declared.error.CutError.TheVariants.{NotProper, EvenTeeth, TeethMeet, ToothInside, ToothOutside, NotRising, PairInside, TooMany, NoMemory}

-- pairs of two cities below n, the lower one first
abbrev pub ArePairs : ℕ → List (ℕ × ℕ) → Type 0
ArePairs n pairs = AllByRecursion (λ p. (p.0 < p.1) × (p.1 < n)) pairs

-- they are, and they rise strictly
pub record AreApart (n : ℕ) (pairs : List (ℕ × ℕ)) : Type 0 where
  pub below : ArePairs n pairs
  pub rising : AreRisingPairs pairs

-- an odd number of pairs
abbrev pub IsOddMany : List (ℕ × ℕ) → Type 0
IsOddMany pairs = length pairs % 2 ≡ 1

-- each pair has one end in the handle
abbrev pub EachCrosses : List ℕ → List (ℕ × ℕ) → Type 0
EachCrosses handle pairs = AllByRecursion (λ p. crosses (has handle) p ≡ true) pairs

-- what is wrong with the odd cut, where all that is told before it is right
abbrev pub IsOddDefect : ℕ → List ℕ → List (ℕ × ℕ) → CutError → Type 0
IsOddDefect n handle pairs NotProper = ¬ IsProper n handle
IsOddDefect n handle pairs EvenTeeth = IsProper n handle × ¬ IsOddMany pairs
IsOddDefect n handle pairs TeethMeet = ⊥
IsOddDefect n handle pairs ToothInside = ⊥
IsOddDefect n handle pairs ToothOutside = ⊥
IsOddDefect n handle pairs NotRising = IsProper n handle × IsOddMany pairs × ¬ AreApart n pairs
IsOddDefect n handle pairs PairInside = IsProper n handle × IsOddMany pairs × AreApart n pairs × ¬ EachCrosses handle pairs
IsOddDefect n handle pairs TooMany = IsProper n handle × IsOddMany pairs × AreApart n pairs × EachCrosses handle pairs × ¬ (length pairs ≤ most_pairs)
IsOddDefect n handle pairs NoMemory = Unit {0}
