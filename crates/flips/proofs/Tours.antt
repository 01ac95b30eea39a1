use Rattle.std.proofs.Common.{◌≡◌, ℕ, zero, suc, ◌<◌, ap, eqb, true, false, List, [], ◌∷◌, length, get_or, refl, sym, ◌∙◌, arith, ⊎_elim}
use Rattle.std.specs.List.{AllByRecursion}
use Rattle.std.proofs.lemmas.Bool.{ne_eqb, or_cases, eqb-true}
use Rattle.std.proofs.lemmas.Bool.Decides.{nat_tests}
use Rattle.tspdef.specs.Sets.{has}
use Rattle.tspdef.proofs.Steps.{tour_has}
use Rattle.tspdef.specs.Tours.{AreDistinct, IsTour}
use Rattle.flips.proofs.Words.{Apart}

has_not : (x : ℕ) (xs : List ℕ) → ((k : ℕ) → k < length xs → get_or xs k 0 ≡ x → ⊥) → has xs x ≡ false
has_not x [] h = refl
has_not x (y ∷ ys) h =
    let a = ne_eqb y x (h 0 (omega arith)) in
    let b = has_not x ys (λ k l e. h (suc k) (omega arith) e) in
    grind arith

pub apart_tail : (x : ℕ) (xs : List ℕ) → Apart (x ∷ xs) → Apart xs
apart_tail x xs a = λ i j h l e. let r = a (suc i) (suc j) (omega arith) (omega arith) e in omega arith

pub distinct_apart : (xs : List ℕ) → Apart xs → AreDistinct xs
distinct_apart [] a = tt
distinct_apart (x ∷ xs) a =
    (has_not x xs (λ k l e. let r = a 0 (suc k) (omega arith) (omega arith) (sym e) in absurd (omega arith)), distinct_apart xs (apart_tail x xs a))

below_all : (n : ℕ) (xs : List ℕ) → ((k : ℕ) → k < length xs → get_or xs k 0 < n) → AllByRecursion (λ c. c < n) xs
below_all n [] h = tt
below_all n (x ∷ xs) h = (h 0 (omega arith), below_all n xs (λ k l. h (suc k) (omega arith)))

pub tour_apart : (n : ℕ) (xs : List ℕ) → length xs ≡ n → ((k : ℕ) → k < length xs → get_or xs k 0 < n) → Apart xs → IsTour n xs
tour_apart n xs e h a = record { all = e; below = below_all n xs h; distinct = distinct_apart xs a }

has_place : (xs : List ℕ) (k : ℕ) → k < length xs → has xs (get_or xs k 0) ≡ true
has_place [] k h = absurd (omega arith)
has_place (x ∷ xs) zero h = grind (arith, nat_tests)
has_place (x ∷ xs) (suc k) h = let ih = has_place xs k (omega arith) in grind arith

clash : (xs : List ℕ) (x k : ℕ) → has xs x ≡ false → k < length xs → get_or xs k 0 ≡ x → ⊥
clash xs x k h l e = let t = has_place xs k l in let u = ap (has xs) e in cc

apart_cases : (x : ℕ) (xs : List ℕ) → AreDistinct (x ∷ xs) → Apart xs → (i j : ℕ) → i < suc (length xs) → j < suc (length xs) → get_or (x ∷ xs) i 0 ≡ get_or (x ∷ xs) j 0 → i ≡ j
apart_cases x xs d a zero zero h l e = refl
apart_cases x xs d a zero (suc j) h l e = absurd (clash xs x j d.0 (omega arith) (sym e))
apart_cases x xs d a (suc i) zero h l e = absurd (clash xs x i d.0 (omega arith) e)
apart_cases x xs d a (suc i) (suc j) h l e = let r = a i j (omega arith) (omega arith) e in omega arith

pub apart_distinct : (xs : List ℕ) → AreDistinct xs → Apart xs
apart_distinct [] d = λ i j h l e. absurd (omega arith)
apart_distinct (x ∷ xs) d = λ i j h l e. apart_cases x xs d (apart_distinct xs d.1) i j h l e

pub has_index : (xs : List ℕ) (a : ℕ) → has xs a ≡ true → (k : ℕ) × ((k < length xs) × (get_or xs k 0 ≡ a))
has_index [] a h = absurd (let e : false ≡ true = h in cc)
has_index (x ∷ xs) a h = ⊎_elim
    (λ (e : eqb x a ≡ true). (0, (omega arith, eqb-true x a e)))
    (λ (e : has xs a ≡ true). let w = has_index xs a e in let l = w.1.0 in (suc w.0, (omega arith, w.1.1)))
    (or_cases (eqb x a) (has xs a) h)

pub forth_from : (n : ℕ) (xs ys : List ℕ) → IsTour n xs → ((k : ℕ) → k < n → get_or ys (get_or xs k 0) 0 ≡ k) → (a : ℕ) → a < n → get_or xs (get_or ys a 0) 0 ≡ a
forth_from n xs ys t back a h =
    let w = has_index xs a (tour_has n xs t a h) in
    let l = w.1.0 in
    let s = t.all in
    let b = back w.0 (omega arith) in
    ap (λ v. get_or xs v 0) (ap (λ v. get_or ys v 0) (sym w.1.1) ∙ b) ∙ w.1.1

pub below_at : (n : ℕ) (xs : List ℕ) → AllByRecursion (λ c. c < n) xs → (k : ℕ) → k < length xs → get_or xs k 0 < n
below_at n [] a k h = absurd (omega arith)
below_at n (x ∷ xs) a zero h = a.0
below_at n (x ∷ xs) a (suc k) h = below_at n xs a.1 k (omega arith)
