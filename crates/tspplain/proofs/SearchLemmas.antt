use Rattle.std.proofs.Common.{◌≡◌, ℕ, ◌+◌, ◌<◌, ◌≤◌, true, false, eqb, List, [], ◌∷◌, ◌++◌, length, refl, sym, ◌∙◌, ap, subst, arith, ⊎_elim, Option}
use Rattle.std.specs.Global.{Vec}
use Rattle.std.specs.List.{AllByRecursion}
use Rattle.std.proofs.lemmas.List.{append_assoc, length-append}
use Rattle.std.proofs.lemmas.Bool.{cases_lt, or_cases, or_left, or_right, eqb-true, eq-eqb}
use Rattle.tspdef.specs.Sets.{has}
use Rattle.tspdef.specs.Tours.{AreDistinct}
use Rattle.tspdef.specs.Instances.{Instance, IsTourOf}
use Rattle.tspplain.specs.Searches.{IsNoLonger, IsBestFrom, Improves}

has_here : (front : List ℕ) (c : ℕ) (rest : List ℕ) → has (front ++ c ∷ rest) c ≡ true
has_here [] c rest = or_left _ _ (eq-eqb c c refl)
has_here (x ∷ xs) c rest = or_right _ _ (has_here xs c rest)

twice : (front : List ℕ) (c : ℕ) (rest : List ℕ) → has front c ≡ true → AreDistinct (front ++ c ∷ rest) → ⊥
twice [] c rest h d = cc
twice (x ∷ xs) c rest h d = ⊎_elim
    (λ e. let there = has_here xs c rest in let none = subst (λ k. has (xs ++ c ∷ rest) k ≡ false) (eqb-true x c e) d.0 in cc)
    (λ r. twice xs c rest r d.1)
    (or_cases (eqb x c) (has xs c) h)

-- the tours that go on from the front by a city below this one are done
abbrev pub IsDoneBelow : Instance → Option (Vec ℕ) → List ℕ → ℕ → Type 0
IsDoneBelow i best front city = (c : ℕ) → c < city → (rest : List ℕ) → IsTourOf i (front ++ c ∷ rest) → IsNoLonger i best (front ++ c ∷ rest)

-- after all tours that go on by the city
pub done_by : (i : Instance) (best new : Option (Vec ℕ)) (front : List ℕ) (city : ℕ)
    → IsDoneBelow i best front city → Improves i best new → IsBestFrom i new (front ++ city ∷ []) → IsDoneBelow i new front (city + 1)
done_by i best new front city below better all c l rest t = ⊎_elim
    (λ lt. better (front ++ c ∷ rest) (below c lt rest t))
    (λ ge.
    let e : city ≡ c = omega arith in
    let same : (front ++ city ∷ []) ++ rest ≡ front ++ c ∷ rest = append_assoc front (city ∷ []) rest ∙ ap (λ k. front ++ k ∷ rest) e in
    subst (IsNoLonger i new) same (all rest (subst (IsTourOf i) (sym same) t)))
    (cases_lt c city)

-- a city that the front has goes on to no tour
pub done_already : (i : Instance) (best : Option (Vec ℕ)) (front : List ℕ) (city : ℕ)
    → IsDoneBelow i best front city → has front city ≡ true → IsDoneBelow i best front (city + 1)
done_already i best front city below had c l rest t = ⊎_elim
    (λ lt. below c lt rest t)
    (λ ge.
    let e : city ≡ c = omega arith in
    let there : has front c ≡ true = subst (λ k. has front k ≡ true) e had in
    absurd (twice front c rest there t.is_tour.distinct))
    (cases_lt c city)

city_below : (n : ℕ) (front : List ℕ) (c : ℕ) (rest : List ℕ) → AllByRecursion (λ k. k < n) (front ++ c ∷ rest) → c < n
city_below n [] c rest a = a.0
city_below n (x ∷ xs) c rest a = city_below n xs c rest a.1

-- once each city is done all tours that begin with the front are
pub all_done : (i : Instance) (best : Option (Vec ℕ)) (front : List ℕ) (city : ℕ)
    → length front < i.n → i.n ≤ city → IsDoneBelow i best front city → IsBestFrom i best front
all_done i best front city short most below [] t =
    let l = t.is_tour.all in let e = length-append front [] in absurd (omega arith)
all_done i best front city short most below (c ∷ rest) t =
    let b = city_below i.n front c rest t.is_tour.below in below c (omega arith) rest t
