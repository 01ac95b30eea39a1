use Rattle.std.proofs.Common.{◌≡◌, ℕ, ◌+◌, ◌%◌, ◌<◌, ◌≤◌, Bool, true, false, cond, eqb, not, List, [], ◌∷◌, length, refl, sym, ◌∙◌, ap, arith, ⊎_elim}
use Rattle.std.proofs.lemmas.Bool.{cases_lt, or_cases, eqb-true, ne_eqb, eq-eqb, or_left}
use Rattle.tspdef.specs.Sets.{has, RisesFrom, IsProper}
use Rattle.tspdef.specs.Tours.{walk, steps, crosses, crossings, IsTour}
use Rattle.tspdef.proofs.Steps.{tour_has}

parity : (x y z : Bool) (m : ℕ) → m % 2 ≡ cond (cond y (not z) z) 1 0 → (cond (cond x (not y) y) 1 0 + m) % 2 ≡ cond (cond x (not z) z) 1 0
parity true true true m h = omega arith
parity true true false m h = omega arith
parity true false true m h = omega arith
parity true false false m h = omega arith
parity false true true m h = omega arith
parity false true false m h = omega arith
parity false false true m h = omega arith
parity false false false m h = omega arith

parity_end : (x z : Bool) → (cond (cond x (not z) z) 1 0 + 0) % 2 ≡ cond (cond x (not z) z) 1 0
parity_end true true = refl
parity_end true false = refl
parity_end false true = refl
parity_end false false = refl

walk_parity : (s : ℕ → Bool) (home a : ℕ) (bs : List ℕ) → crossings s (walk home a bs) % 2 ≡ cond (crosses s (a, home)) 1 0
walk_parity s home a [] = parity_end (s a) (s home)
walk_parity s home a (b ∷ bs) = parity (s a) (s b) (s home) (crossings s (walk home b bs)) (walk_parity s home b bs)

same_set : (x : Bool) → cond x (not x) x ≡ false
same_set true = refl
same_set false = refl

pub tour_parity : (s : ℕ → Bool) (tour : List ℕ) → crossings s (steps tour) % 2 ≡ 0
tour_parity s [] = refl
tour_parity s (a ∷ bs) = walk_parity s a a bs ∙ ap (λ b. cond b 1 0) (same_set (s a))

stays_step : (x y z : Bool) (m : ℕ) → cond (cond x (not y) y) 1 0 + m ≡ 0 → (m ≡ 0 → y ≡ z) → (x ≡ z) × (m ≡ 0)
stays_step true true z m h k = let e : m ≡ 0 = omega arith in (k e, e)
stays_step true false z m h k = absurd (omega arith)
stays_step false true z m h k = absurd (omega arith)
stays_step false false z m h k = let e : m ≡ 0 = omega arith in (k e, e)

-- a walk that never crosses stays on its side
stays : (s : ℕ → Bool) (home a : ℕ) (bs : List ℕ) → crossings s (walk home a bs) ≡ 0 → s a ≡ s home
stays s home a [] h = (stays_step (s a) (s home) (s home) 0 h (λ _. refl)).0
stays s home a (b ∷ bs) h = (stays_step (s a) (s b) (s home) (crossings s (walk home b bs)) h (stays s home b bs)).0

stays_at : (s : ℕ → Bool) (home a : ℕ) (bs : List ℕ) → crossings s (walk home a bs) ≡ 0 → (c : ℕ) → has (a ∷ bs) c ≡ true → s c ≡ s home
stays_at s home a [] h c m = ⊎_elim (λ e. ap s (sym (eqb-true a c e)) ∙ stays s home a [] h) (λ e. cc) (or_cases (eqb a c) false m)
stays_at s home a (b ∷ bs) h c m = ⊎_elim
    (λ e. ap s (sym (eqb-true a c e)) ∙ stays s home a (b ∷ bs) h)
    (λ e. stays_at s home b bs (stays_step (s a) (s b) (s home) (crossings s (walk home b bs)) h (stays s home b bs)).1 c e)
    (or_cases (eqb a c) (has (b ∷ bs) c) m)

pub tour_crosses : (s : ℕ → Bool) (tour : List ℕ) (x y : ℕ) → has tour x ≡ true → has tour y ≡ true → s x ≡ true → s y ≡ false → 2 ≤ crossings s (steps tour)
tour_crosses s [] x y hx hy sx sy = cc
tour_crosses s (a ∷ bs) x y hx hy sx sy =
    let even = tour_parity s (a ∷ bs) in
    let some : crossings s (walk a a bs) ≡ 0 → ⊥ = λ z. let p = stays_at s a a bs z x hx in let q = stays_at s a a bs z y hy in cc in
    omega (arith, some)

-- what is before a rising list is not in it
before_rising : (m : ℕ) (s : List ℕ) (n k : ℕ) → RisesFrom n m s → k < m → has s k ≡ false
before_rising m [] n k r l = refl
before_rising m (c ∷ cs) n k r l =
    let e : eqb c k ≡ false = ne_eqb c k (omega arith) in
    let rest = before_rising (c + 1) cs n k r.1 (omega arith) in
    cc

-- a short rising list lacks a city
lacking : (m : ℕ) (s : List ℕ) (n : ℕ) → RisesFrom n m s → m + length s < n → (y : ℕ) × ((m ≤ y) × ((y < n) × (has s y ≡ false)))
lacking m [] n r l = (m, (omega arith, (omega arith, refl)))
lacking m (c ∷ cs) n r l = ⊎_elim
    (λ q. (m, (omega arith, (omega arith, before_rising c (c ∷ cs) n m ((omega arith, r.0.1), r.1) q))))
    (λ q. let e : c ≡ m = omega arith in
    let d = lacking (c + 1) cs n r.1 (omega arith) in
    let ne : eqb c d.0 ≡ false = let o = d.1.0 in ne_eqb c d.0 (omega arith) in
    let h = d.1.1.1 in
    (d.0, (let o = d.1.0 in omega arith, (d.1.1.0, let goal : has (c ∷ cs) d.0 ≡ false = cc in goal))))
    (cases_lt m c)

pub within_rising : (m : ℕ) (s : List ℕ) (n k : ℕ) → RisesFrom n m s → has s k ≡ true → k < n
within_rising m [] n k r h = cc
within_rising m (c ∷ cs) n k r h = ⊎_elim
    (λ e. let q = eqb-true c k e in let l = r.0.1 in omega arith)
    (λ e. within_rising (c + 1) cs n k r.1 e)
    (or_cases (eqb c k) (has cs k) h)

first_in : (s : List ℕ) → 0 < length s → (x : ℕ) × (has s x ≡ true)
first_in [] l = absurd (omega arith)
first_in (c ∷ cs) l = (c, or_left _ _ (eq-eqb c c refl))

pub subtour_law : (n : ℕ) (tour s : List ℕ) → IsTour n tour → IsProper n s
    → (crossings (has s) (steps tour) % 2 ≡ 0) × (2 ≤ crossings (has s) (steps tour))
subtour_law n tour s t p =
    let x = first_in s p.some in
    let y = lacking 0 s n p.set (let l = p.not_all in omega arith) in (
      tour_parity (has s) tour,
      tour_crosses (has s) tour x.0 y.0 (tour_has n tour t x.0 (within_rising 0 s n x.0 p.set x.1)) (tour_has n tour t y.0 y.1.1.0) x.1 y.1.1.1,
    )
