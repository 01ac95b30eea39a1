-- Why a handle and teeth are no comb, in the order in which it is told.
use Rattle.std.specs.Prelude.{◌≡◌, ℕ, ◌%◌, ◌≤◌, Bool, true, false, ◌||◌, List, [], ◌∷◌, length}
use Rattle.std.specs.List.{AllByRecursion}
use Rattle.tspdef.specs.Sets.{IsSet, IsProper, meet, leaves, meets_any, AreDisjoint}
use Rattle.cutform.specs.declared.error.CutError.{CutError}
use Rattle.cutform.specs.declared.error.CutError.TheVariants.{NotProper, EvenTeeth, TeethMeet, ToothInside, ToothOutside, NotRising, PairInside, TooMany, NoMemory}

-- a proper handle, and teeth that are sets, of n cities
pub record AreProper (n : ℕ) (handle : List ℕ) (teeth : List (List ℕ)) : Type 0 where
  pub proper : IsProper n handle
  pub sets : AllByRecursion (IsSet n) teeth

-- an odd number of teeth, three or more
pub record AreOddMany (teeth : List (List ℕ)) : Type 0 where
  pub odd : length teeth % 2 ≡ 1
  pub many : 3 ≤ length teeth

-- each tooth has a city outside the handle
abbrev pub EachLeaves : List ℕ → List (List ℕ) → Type 0
EachLeaves handle teeth = AllByRecursion (λ t. leaves t handle ≡ true) teeth

-- each tooth has a city in the handle
abbrev pub EachEnters : List ℕ → List (List ℕ) → Type 0
EachEnters handle teeth = AllByRecursion (λ t. meet t handle ≡ true) teeth

-- what is wrong with the comb, where all that is told before it is right
abbrev pub IsDefect : ℕ → List ℕ → List (List ℕ) → CutError → Type 0
IsDefect n handle teeth NotProper = ¬ AreProper n handle teeth
IsDefect n handle teeth EvenTeeth = AreProper n handle teeth × ¬ AreOddMany teeth
IsDefect n handle teeth TeethMeet = AreProper n handle teeth × AreOddMany teeth × ¬ AreDisjoint teeth
IsDefect n handle teeth ToothInside = AreProper n handle teeth × AreOddMany teeth × AreDisjoint teeth × ¬ EachLeaves handle teeth
IsDefect n handle teeth ToothOutside = AreProper n handle teeth × AreOddMany teeth × AreDisjoint teeth × EachLeaves handle teeth × ¬ EachEnters handle teeth
IsDefect n handle teeth NotRising = ⊥
IsDefect n handle teeth PairInside = ⊥
IsDefect n handle teeth TooMany = ⊥
IsDefect n handle teeth NoMemory = Unit {0}

-- two of the sets have a city in common
abbrev pub any_two_meet : List (List ℕ) → Bool
any_two_meet [] = false
any_two_meet (s ∷ ss) = meets_any s ss || any_two_meet ss
