-- Fixed pairs: pairs of cities that each tour of an instance joins.
use Rattle.std.specs.Prelude.{◌≡◌, ℕ, ◌+◌, ◌<◌, ◌≤◌, Bool, true, false, cond, ◌==◌, ◌||◌, ◌⊎◌, List, [], ◌∷◌}
use Rattle.std.specs.List.{AllByRecursion}
use Rattle.tspdef.specs.Tours.{has_step}

-- a pair comes before another: by its first city, then by its second
abbrev pub IsPairBefore : ℕ × ℕ → ℕ × ℕ → Type 0
IsPairBefore p q = (p.0 < q.0) ⊎ ((p.0 ≡ q.0) × (p.1 < q.1))

-- strictly rising pairs behind p
abbrev pub PairsRise : ℕ × ℕ → List (ℕ × ℕ) → Type 0
PairsRise p [] = Unit {0}
PairsRise p (q ∷ qs) = IsPairBefore p q × PairsRise q qs

-- strictly rising pairs
abbrev pub AreRisingPairs : List (ℕ × ℕ) → Type 0
AreRisingPairs [] = Unit {0}
AreRisingPairs (p ∷ ps) = PairsRise p ps

-- how many of the pairs have the city
abbrev pub pairs_at : List (ℕ × ℕ) → ℕ → ℕ
pairs_at [] c = 0
pairs_at (p ∷ ps) c = cond ((p.0 == c) || (p.1 == c)) 1 0 + pairs_at ps c

-- no pair has exactly one end among the cities
abbrev pub NoneLeaves : List (ℕ × ℕ) → (ℕ → Bool) → Type 0
NoneLeaves pairs s = AllByRecursion (λ p. s p.0 ≡ s p.1) pairs

-- a city of the set with one pair at most
pub record IsEnd (n : ℕ) (pairs : List (ℕ × ℕ)) (s : ℕ → Bool) (c : ℕ) : Type 0 where
  pub city : c < n
  pub inside : s c ≡ true
  pub few : pairs_at pairs c ≤ 1

-- No cycle leaves out a city: some of the cities that no pair leaves, but not all n, have among them one with at most one pair.
abbrev pub LeavesNoneOut : ℕ → List (ℕ × ℕ) → Type 0
LeavesNoneOut n pairs = (s : ℕ → Bool) (u v : ℕ) → u < n → s u ≡ true → v < n → s v ≡ false → NoneLeaves pairs s → (c : ℕ) × IsEnd n pairs s c

-- Pairs u < v below n, strictly rising, at most two at a city, and no cycle of them but one through all n cities: they may be
-- part of one tour.
pub record AreFixable (n : ℕ) (pairs : List (ℕ × ℕ)) : Type 0 where
  pub below : AllByRecursion (λ p. (p.0 < p.1) × (p.1 < n)) pairs
  pub rising : AreRisingPairs pairs
  pub few : (c : ℕ) → pairs_at pairs c ≤ 2
  pub open_ended : LeavesNoneOut n pairs

-- each pair is one of the steps
abbrev pub AreSteps : List (ℕ × ℕ) → List (ℕ × ℕ) → Type 0
AreSteps es pairs = AllByRecursion (λ p. has_step es p.0 p.1 ≡ true) pairs
