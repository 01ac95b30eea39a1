-- Numbered duals that are sorted by number are those put in one by one.
use Rattle.std.proofs.Common.{◌≡◌, ℕ, suc, ◌+◌, ◌<◌, ◌≤◌, Bool, true, cond, ◌&&◌, List, [], ◌∷◌, ◌++◌, length, get_or, drop, map, refl, sym, ◌∙◌, ap, subst, arith, ⊎_elim, inl, inr, ◌⊎◌}
use Rattle.std.specs.Prelude.{◌==◌, sum_by}
use Rattle.std.specs.List.{AllByRecursion}
use Rattle.std.specs.List.Sorted.{IsPermutation, IsNonDecreasingBy}
use Rattle.std.proofs.lemmas.List.Sorted.{sum_by-IsPermutation}
use Rattle.std.proofs.lemmas.Bool.{cases_Bool, and_parts, and_from, eq-eqb, eqb-true, cond-true, cond-false}
use Rattle.std.proofs.lemmas.List.{append-nil, at_drop_all}
use Rattle.std.proofs.lemmas.List.Recursion.{is_sum_by}
use Rattle.tspdef.specs.Cuts.{Cut}
use Rattle.tspdef.specs.Closings.{AreRisingCuts}
use Rattle.certdef.specs.Items.{rises}
use Rattle.certdef.specs.Accepted.{firsts}
use Rattle.certform.specs.Written.{number_of, put_in, written_cuts}
use Rattle.certform.specs.Listing.{AreListed}
use Rattle.certform.proofs.Sorting.{put_cases, rises_from, numbers_rise}

abbrev same : (ℕ × ℕ) → (ℕ × ℕ) → Bool
same q r = (q.0 == r.0) && (q.1 == r.1)

abbrev one : (ℕ × ℕ) → (ℕ × ℕ) → ℕ
one q r = cond (same q r) 1 0

-- how often a numbered dual is in a list
abbrev times : (ℕ × ℕ) → List (ℕ × ℕ) → ℕ
times q [] = 0
times q (x ∷ xs) = one q x + times q xs

times_is : (q : ℕ × ℕ) (xs : List (ℕ × ℕ)) → times q xs ≡ sum_by (one q) xs
times_is q xs = is_sum_by (times q) (one q) refl (λ _ _. refl) xs

same_true : (q r : ℕ × ℕ) → same q r ≡ true → q ≡ r
same_true (a, b) (c, d) e =
    let p = and_parts (a == c) (b == d) e in
    let x = eqb-true a c p.0 in let y = eqb-true b d p.1 in cc

one_self : (q : ℕ × ℕ) → one q q ≡ 1
one_self q = cond-true (same q q) 1 0 (and_from (q.0 == q.0) (q.1 == q.1) (eq-eqb q.0 q.0 refl) (eq-eqb q.1 q.1 refl))

-- one that is in a list is the first, or in the rest
first_or_later : (q r : ℕ × ℕ) (rs : List (ℕ × ℕ)) → 1 ≤ times q (r ∷ rs) → (q ≡ r) ⊎ (1 ≤ times q rs)
first_or_later q r rs h = ⊎_elim (λ e. inl (same_true q r e)) (λ e. let z : one q r ≡ 0 = cond-false (same q r) 1 0 e in inr (omega arith)) (cases_Bool (same q r))

-- each number is at least so great
abbrev AreFrom : ℕ → List (ℕ × ℕ) → Type 0
AreFrom k xs = AllByRecursion (λ q. k ≤ q.0) xs

in_from : (k : ℕ) (q : ℕ × ℕ) (xs : List (ℕ × ℕ)) → AreFrom k xs → 1 ≤ times q xs → k ≤ q.0
in_from k q [] h l = absurd (omega arith)
in_from k q (r ∷ rs) h l = ⊎_elim (λ e. let p = ap (λ (x : ℕ × ℕ). x.0) e in let m = h.0 in omega arith) (λ m. in_from k q rs h.1 m) (first_or_later q r rs l)

rising_from : (from most : ℕ) (xs : List (ℕ × ℕ)) → rises from most (firsts xs) ≡ true → AreFrom from xs
rising_from from most [] h = tt
rising_from from most (x ∷ xs) h =
    let p = rises_from from most x.0 (firsts xs) h in (p.0, weaker from (x.0 + 1) xs (omega (arith, p.0)) (rising_from (x.0 + 1) most xs p.2)) where
      weaker : (a b : ℕ) (ys : List (ℕ × ℕ)) → a ≤ b → AreFrom b ys → AreFrom a ys
      weaker a b [] l h = tt
      weaker a b (y ∷ ys) l h = let m = h.0 in (omega arith, weaker a b ys l h.1)

-- each is followed by no lesser number
abbrev NeverFalls : List (ℕ × ℕ) → Type 0
NeverFalls [] = Unit {0}
NeverFalls (x ∷ xs) = AreFrom x.0 xs × NeverFalls xs

same_list : (from most : ℕ) (xs ys : List (ℕ × ℕ)) → rises from most (firsts xs) ≡ true → NeverFalls ys → ((q : ℕ × ℕ) → times q ys ≡ times q xs) → ys ≡ xs
same_list from most [] [] h k e = refl
same_list from most [] (y ∷ ys) h k e = let a = e y in let b = one_self y in absurd (omega arith)
same_list from most (x ∷ xs) [] h k e = let a = e x in let b = one_self x in absurd (omega arith)
same_list from most (x ∷ xs) (y ∷ ys) h k e =
    let p = rises_from from most x.0 (firsts xs) h in
    let later = rising_from (x.0 + 1) most xs p.2 in
    let a = e y in let b = one_self y in let c = e x in let d = one_self x in
    let low : y.0 ≤ x.0 = ⊎_elim (λ f. let g = ap (λ (z : ℕ × ℕ). z.0) f in omega arith) (λ l. in_from y.0 x ys k.0 l) (first_or_later x y ys (omega arith)) in
    let here : y ≡ x = ⊎_elim (λ f. f) (λ l. let m = in_from (x.0 + 1) y xs later l in absurd (omega arith)) (first_or_later y x xs (omega arith)) in
    let rest = same_list (x.0 + 1) most xs ys p.2 k.1 (λ q. let f = e q in let g = ap (one q) here in omega arith) in cc

-- ---- from what a sort ensures

from_all : (k : ℕ) (xs : List (ℕ × ℕ)) (d : ℕ × ℕ) → ((i : ℕ) → i < length xs → k ≤ (get_or xs i d).0) → AreFrom k xs
from_all k [] d h = tt
from_all k (x ∷ xs) d h = (h 0 (omega arith), from_all k xs d (λ i l. h (suc i) (omega arith)))

never_falls : (xs : List (ℕ × ℕ)) (d : ℕ × ℕ) → ((i j : ℕ) → i ≤ j → j < length xs → (get_or xs i d).0 ≤ (get_or xs j d).0) → NeverFalls xs
never_falls [] d h = tt
never_falls (x ∷ xs) d h = (from_all x.0 xs d (λ i l. h 0 (suc i) (omega arith) (omega arith)), never_falls xs d (λ i j l m. h (suc i) (suc j) (omega arith) (omega arith)))

times-put_in : (p q : ℕ × ℕ) (xs : List (ℕ × ℕ)) → times p (put_in q xs) ≡ one p q + times p xs
times-put_in p q [] = refl
times-put_in p q (r ∷ rs) = put_cases (λ ys. times p ys ≡ one p q + times p (r ∷ rs)) q r rs (λ l. refl) (λ l. let ih = times-put_in p q rs in omega arith)

-- the numbers with their duals, in the order of the cuts
abbrev pub numbered : List Cut → List (Cut × ℕ) → List (ℕ × ℕ)
numbered cs qs = map (λ q. (number_of cs q.0, q.1)) qs

times-written : (p : ℕ × ℕ) (cs : List Cut) (qs : List (Cut × ℕ)) → times p (written_cuts cs qs) ≡ times p (numbered cs qs)
times-written p cs [] = refl
times-written p cs (q ∷ qs) = times-put_in p (number_of cs q.0, q.1) (written_cuts cs qs) ∙ ap (λ k. one p (number_of cs q.0, q.1) + k) (times-written p cs qs)

sorted_is : (cs : List Cut) (qs : List (Cut × ℕ)) (ys : List (ℕ × ℕ)) (d : ℕ × ℕ) → AreListed cs qs → AreRisingCuts qs → IsPermutation (numbered cs qs) ys
    → ((i j : ℕ) → i ≤ j → j < length ys → (get_or ys i d).0 ≤ (get_or ys j d).0) → ys ≡ written_cuts cs qs
sorted_is cs qs ys d h r perm up =
    same_list 1 (length cs) (written_cuts cs qs) ys (numbers_rise cs qs h r) (never_falls ys d up)
    (λ q. times_is q ys ∙ sum_by-IsPermutation (one q) (numbered cs qs) ys perm ∙ sym (times_is q (numbered cs qs)) ∙ sym (times-written q cs qs))

pub sorted_numbers : (cs : List Cut) (qs : List (Cut × ℕ)) (xs ys : List (ℕ × ℕ)) (i : ℕ) → AreListed cs qs → AreRisingCuts qs → length qs ≤ i
    → xs ++ numbered cs (drop i qs) ≡ numbered cs qs → IsPermutation xs ys → IsNonDecreasingBy (λ (q : ℕ × ℕ). q.0) ys → ys ≡ written_cuts cs qs
sorted_numbers cs qs xs ys i h r l e perm up =
    let all : xs ≡ numbered cs qs = sym (append-nil xs) ∙ ap (λ r. xs ++ r) (sym (at_drop_all (numbered cs) qs i l)) ∙ e in
    sorted_is cs qs ys (0, 0) h r (subst (λ x. IsPermutation x ys) all perm) (λ i j a b. up i j (0, 0) a b)
