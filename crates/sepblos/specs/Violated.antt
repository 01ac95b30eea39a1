-- Cuts that values on pairs violate by so much that they are worth adding.
use Rattle.std.specs.Prelude.{◌≡◌, ℕ, ◌^◌, ◌<◌, Bool, false, ◌||◌, List, [], ◌∷◌, slice_index_or, pos, ◌≤ℤ◌}
use Rattle.tspdef.specs.Sets.{has}
use Rattle.tspdef.specs.Cuts.{Cut, comb, sets_of, IsComb, IsCut}
use Rattle.tspdef.specs.Bounds.{violation}
use Rattle.cyc.specs.Frac.{Values, value_of}

-- A cut of the cities, violated by 2^10 units or more.
pub record IsWorth (x : Values) (cut : Cut) : Type 0 where
  pub is_cut : IsCut x.n cut
  pub violated : pos (2 ^ 10) ≤ℤ violation (value_of x.entries) x.n cut

-- The comb of a handle and teeth, which are one, violated by 2^10 units or more.
pub record IsViolatedComb (x : Values) (handle : List ℕ) (teeth : List (List ℕ)) (cut : Cut) : Type 0 where
  pub whole : IsComb x.n handle teeth
  pub made : cut ≡ comb x.n handle teeth
  pub violated : pos (2 ^ 10) ≤ℤ violation (value_of x.entries) x.n cut

-- one of the sets has the city
abbrev pub is_in_any : List (List ℕ) → ℕ → Bool
is_in_any [] city = false
is_in_any (s ∷ ss) city = has s city || is_in_any ss city

-- marks on those of n cities that are in a set of the cut
abbrev pub AreMarksOf : ℕ → Cut → List Bool → Type 0
AreMarksOf n cut marks = (city : ℕ) → city < n → slice_index_or marks city false ≡ is_in_any (sets_of cut) city
