-- What comes next: the steps of a tour, and the places of its list.
use Rattle.std.proofs.Common.{◌≡◌, ℕ, zero, suc, ◌+◌, ◌<◌, ◌≤◌, true, false, eqb, ◌&&◌, List, [], ◌∷◌, ◌++◌, length, get_or, refl, sym, ◌∙◌, ap, subst, arith, ⊎_elim}
use Rattle.std.proofs.lemmas.Bool.{cases_lt, or_cases, or_left, or_right, and_from, and_parts, eq-eqb, eqb-true}
use Rattle.std.proofs.lemmas.List.{get_or_append_left, get_or_push}
use Rattle.tspdef.specs.Tours.{walk, IsTour}
use Rattle.flips.specs.Cycles.{leads, Follows, IsFlipped}
use Rattle.flips.specs.Places.{wrap}
use Rattle.flips.proofs.Words.{Succeeds, Apart, flips_of}
use Rattle.flips.proofs.Turns.{wrap_low, wrap_high, wrap_in}
use Rattle.flips.proofs.Steps.{follows_one, precedes_one, exchanges_from}
use Rattle.flips.proofs.Tours.{apart_distinct, below_at}
use Rattle.flips.proofs.Lengths.{IsSymmetric, exchange_length}
use Rattle.tspdef.specs.Tours.{tour_length}

leads_at : (home a : ℕ) (bs : List ℕ) (k : ℕ) → k < suc (length bs) → leads (walk home a bs) (get_or (a ∷ bs) k 0) (get_or (bs ++ home ∷ []) k 0) ≡ true
leads_at home a [] zero h = or_left _ _ (and_from _ _ (eq-eqb a a refl) (eq-eqb home home refl))
leads_at home a [] (suc k) h = absurd (omega arith)
leads_at home a (b ∷ bs) zero h = or_left _ _ (and_from _ _ (eq-eqb a a refl) (eq-eqb b b refl))
leads_at home a (b ∷ bs) (suc k) h = or_right _ _ (leads_at home b bs k (omega arith))

record IsAt (home a : ℕ) (bs : List ℕ) (x y : ℕ) : Type 0 where
  pub place : ℕ
  pub inside : place < suc (length bs)
  pub here : get_or (a ∷ bs) place 0 ≡ x
  pub there : get_or (bs ++ home ∷ []) place 0 ≡ y

leads_place : (home a : ℕ) (bs : List ℕ) (x y : ℕ) → leads (walk home a bs) x y ≡ true → IsAt home a bs x y
leads_place home a [] x y h = ⊎_elim
    (λ (e : (eqb a x && eqb home y) ≡ true). let p = and_parts _ _ e in record { place = 0; inside = omega arith; here = eqb-true a x p.0; there = eqb-true home y p.1 })
    (λ (e : false ≡ true). absurd (cc))
    (or_cases _ _ h)
leads_place home a (b ∷ bs) x y h = ⊎_elim
    (λ (e : (eqb a x && eqb b y) ≡ true). let p = and_parts _ _ e in record { place = 0; inside = omega arith; here = eqb-true a x p.0; there = eqb-true b y p.1 })
    (λ (e : leads (walk home b bs) x y ≡ true).
    let w = leads_place home b bs x y e in
    let i = w.inside in
    record { place = suc w.place; inside = omega arith; here = w.here; there = w.there })
    (or_cases _ _ h)

next_at : (a : ℕ) (bs : List ℕ) (k : ℕ) → k < suc (length bs) → get_or (bs ++ a ∷ []) k 0 ≡ get_or (a ∷ bs) (wrap (suc (length bs)) (k + 1)) 0
next_at a bs k h = ⊎_elim
    (λ (l : k < length bs).
    let w : wrap (suc (length bs)) (k + 1) ≡ suc k = wrap_low (suc (length bs)) (k + 1) (omega arith) ∙ omega arith in
    get_or_append_left bs (a ∷ []) 0 k l ∙ sym (ap (λ j. get_or (a ∷ bs) j 0) w))
    (λ (l : length bs ≤ k).
    let w : wrap (suc (length bs)) (k + 1) ≡ 0 = wrap_high (suc (length bs)) (k + 1) (omega arith) ∙ omega arith in
    get_or_push bs a 0 k (omega arith) ∙ sym (ap (λ j. get_or (a ∷ bs) j 0) w))
    (cases_lt k (length bs))

pub follows_of : (xs : List ℕ) (a b : ℕ) → Succeeds xs a b → Follows xs a b
follows_of [] a b s = absurd (let h = s.inside in omega arith)
follows_of (x ∷ xs) a b s =
    let l = leads_at x x xs s.place s.inside in
    let there : get_or (xs ++ x ∷ []) s.place 0 ≡ b = next_at x xs s.place s.inside ∙ s.there in
    subst (λ y. leads (walk x x xs) a y ≡ true) there (subst (λ y. leads (walk x x xs) y (get_or (xs ++ x ∷ []) s.place 0) ≡ true) s.here l)

pub succeeds_of : (xs : List ℕ) (a b : ℕ) → Follows xs a b → Succeeds xs a b
succeeds_of [] a b h = absurd (let e : false ≡ true = h in cc)
succeeds_of (x ∷ xs) a b h =
    let w = leads_place x x xs a b h in
    record { place = w.place; inside = w.inside; here = w.here; there = sym (next_at x xs w.place w.inside) ∙ w.there }

pub apart_of : (n : ℕ) (xs : List ℕ) → IsTour n xs → Apart xs
apart_of n xs t = apart_distinct xs t.distinct

-- in a tour one city alone comes next, and one before
pub next_is_one : (n : ℕ) (xs : List ℕ) (a b c : ℕ) → IsTour n xs → Follows xs a b → Follows xs a c → b ≡ c
next_is_one n xs a b c t f g = follows_one xs a b c (apart_of n xs t) (succeeds_of xs a b f) (succeeds_of xs a c g)

pub previous_is_one : (n : ℕ) (xs : List ℕ) (a b c : ℕ) → IsTour n xs → Follows xs b a → Follows xs c a → b ≡ c
previous_is_one n xs a b c t f g = precedes_one xs a b c (apart_of n xs t) (succeeds_of xs b a f) (succeeds_of xs c a g)

-- the cities of a step are in range
pub steps_are_within : (n : ℕ) (xs : List ℕ) (a b : ℕ) → IsTour n xs → Follows xs a b → (a < n) × (b < n)
steps_are_within n xs a b t f =
    let s = succeeds_of xs a b f in
    let all = t.all in
    let p = s.inside in
    (subst (λ v. v < n) s.here (below_at n xs t.below s.place p), subst (λ v. v < n) s.there (below_at n xs t.below (wrap (length xs) (s.place + 1)) (wrap_in (length xs) (s.place + 1) (omega arith))))

-- four distances tell how turning a path round changes the length
pub flip_length : (d : ℕ → ℕ → ℕ) (n : ℕ) (old new : List ℕ) (a b c e : ℕ) → IsSymmetric d → IsTour n old → Follows old a b → Follows old c e → (a ≡ c → ⊥) → IsFlipped old new b c
    → tour_length d new + (d a b + d c e) ≡ tour_length d old + (d a c + d b e)
flip_length d n old new a b c e s t f g ne w =
    exchange_length d old new a b c e s (exchanges_from old new a b c e (apart_of n old t) (flips_of old new b c w) (succeeds_of old a b f) (succeeds_of old c e g) ne)
