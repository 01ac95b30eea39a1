-- The length of a tour, city by city.
use Rattle.std.proofs.Common.{◌≡◌, ℕ, zero, suc, ◌+◌, ◌<◌, ◌≤◌, List, [], ◌∷◌, length, drop, get_or, refl, ap, ◌∙◌, arith, add-one, drop-cons}
use Rattle.std.specs.List.{AllByRecursion}
use Rattle.std.proofs.lemmas.List.{drop_all}
use Rattle.tspdef.specs.Tours.{walk, travelled, tour_length}

-- each city is below n
pub city_below : (n i : ℕ) (tour : List ℕ) → AllByRecursion (λ c. c < n) tour → i < length tour → get_or tour i 0 < n
city_below n i [] h l = absurd (omega arith)
city_below n zero (c ∷ cs) h l = h.0
city_below n (suc i) (c ∷ cs) h l = city_below n i cs h.1 (omega arith)

module _ (d : ℕ → ℕ → ℕ) where
  -- what is left to travel from a city on, through those from place i on and home
  abbrev pub ahead : ℕ → ℕ → List ℕ → ℕ → ℕ
  ahead home here tour i = travelled d (walk home here (drop i tour))

  pub ahead_first : (tour : List ℕ) (home : ℕ) → 0 < length tour → home ≡ get_or tour 0 0 → ahead home home tour 1 ≡ tour_length d tour
  ahead_first [] home l e = absurd (omega arith)
  ahead_first (c ∷ cs) home l e = rw e refl

  pub ahead_next : (tour : List ℕ) (home here i : ℕ) → i < length tour → ahead home here tour i ≡ d here (get_or tour i 0) + ahead home (get_or tour i 0) tour (i + 1)
  ahead_next tour home here i l = ap (λ (cs : List ℕ). travelled d (walk home here cs)) (drop-cons tour i 0 l) ∙ rw add-one refl

  pub ahead_last : (tour : List ℕ) (home here i : ℕ) → length tour ≤ i → ahead home here tour i ≡ d here home
  ahead_last tour home here i l = ap (λ (cs : List ℕ). travelled d (walk home here cs)) (drop_all i tour l) ∙ omega arith
