use Rattle.std.proofs.Common.{◌≡◌, ℕ, ◌+◌, ◌*◌, ◌%◌, ◌≤◌, Bool, true, false, cond, eqb, ◌&&◌, ◌||◌, not, List, [], ◌∷◌, length, refl, subst, arith, ⊎_elim}
use Rattle.std.proofs.lemmas.Bool.{cases_Bool, or_cases, or_parts, or_from, or_left, or_right, eqb-true, eq-eqb, not-true}
use Rattle.std.specs.List.{AllByRecursion}
use Rattle.tspdef.specs.Sets.{has, meet, meets_any, AreDisjoint, leaves}
use Rattle.tspdef.specs.Tours.{steps, IsTour, crosses, crossings}
use Rattle.tspdef.specs.Cuts.{IsTooth, IsComb, crossings_of_all}
use Rattle.tspdef.proofs.Steps.{tour_has}
use Rattle.tspdef.proofs.CrossingLemmas.{tour_parity, tour_crosses, within_rising}

-- the step goes from the handle's part of t to the rest of t
abbrev pub inner : (ℕ → Bool) → (ℕ → Bool) → (ℕ × ℕ) → Bool
inner t h e = (t e.0 && t e.1) && crosses h e

abbrev pub inners : (ℕ → Bool) → (ℕ → Bool) → List (ℕ × ℕ) → ℕ
inners t h [] = 0
inners t h (e ∷ es) = cond (inner t h e) 1 0 + inners t h es

parts_step : (ta tb ha hb : Bool) → cond (cond (ta && ha) (not (tb && hb)) (tb && hb)) 1 0 + cond (cond (ta && not ha) (not (tb && not hb)) (tb && not hb)) 1 0 ≡ cond (cond ta (not tb) tb) 1 0 + 2 * cond ((ta && tb) && cond ha (not hb) hb) 1 0
parts_step ta tb ha hb = grind arith

-- the two parts of a tooth are crossed at its border and, each, at the inner steps
pub parts : (t h : ℕ → Bool) (es : List (ℕ × ℕ)) → crossings (λ c. t c && h c) es + crossings (λ c. t c && not (h c)) es ≡ crossings t es + 2 * inners t h es
parts t h [] = refl
parts t h (e ∷ es) = let ih = parts t h es in let p = parts_step (t e.0) (t e.1) (h e.0) (h e.1) in omega arith

tooth : (t h : ℕ → Bool) (tour : List ℕ) (x y z : ℕ) → has tour x ≡ true → has tour y ≡ true → has tour z ≡ true
    → t x ≡ true → h x ≡ true → t y ≡ true → h y ≡ false → t z ≡ false → 3 ≤ crossings t (steps tour) + inners t h (steps tour)
tooth t h tour x y z ix iy iz tx hx ty hy tz =
    let inside = tour_crosses (λ c. t c && h c) tour x y ix iy (rw (tx, hx)) (rw (ty, hy)) in
    let outside = tour_crosses (λ c. t c && not (h c)) tour y x iy ix (rw (ty, hy)) (rw (tx, hx)) in
    let whole = tour_crosses t tour x z ix iz tx tz in
    let even = tour_parity t tour in
    let p = parts t h (steps tour) in
    omega arith

-- ---- disjoint teeth

unmet : (t s : List ℕ) (c : ℕ) → meet t s ≡ false → has t c ≡ true → has s c ≡ false
unmet [] s c m h = cc
unmet (a ∷ t) s c m h = let p = or_parts (has s a) (meet t s) m in ⊎_elim
    (λ e. subst (λ k. has s k ≡ false) (eqb-true a c e) p.0)
    (λ e. unmet t s c p.1 e)
    (or_cases (eqb a c) (has t c) h)

abbrev pub held : List (List ℕ) → ℕ → Bool
held [] c = false
held (t ∷ ts) c = has t c || held ts c

pub unheld : (t : List ℕ) (ts : List (List ℕ)) (c : ℕ) → meets_any t ts ≡ false → has t c ≡ true → held ts c ≡ false
unheld t [] c m h = refl
unheld t (s ∷ ss) c m h = let p = or_parts (meet t s) (meets_any t ss) m in or_from _ _ (unmet t s c p.0 h) (unheld t ss c p.1 h)

abbrev inner_all : List (List ℕ) → (ℕ → Bool) → (ℕ × ℕ) → ℕ
inner_all [] h e = 0
inner_all (t ∷ ts) h e = cond (inner (has t) h e) 1 0 + inner_all ts h e

abbrev inners_all : List (List ℕ) → (ℕ → Bool) → List (ℕ × ℕ) → ℕ
inners_all [] h es = 0
inners_all (t ∷ ts) h es = inners (has t) h es + inners_all ts h es

outer : (a b x : Bool) → a ≡ false → ◌≡◌ {A = ℕ} (cond ((a && b) && x) 1 0) 0
outer a b x e = rw e

inner_none : (ts : List (List ℕ)) (h : ℕ → Bool) (e : ℕ × ℕ) → held ts e.0 ≡ false → inner_all ts h e ≡ 0
inner_none [] h e k = refl
inner_none (t ∷ ts) h e k =
    let p = or_parts (has t e.0) (held ts e.0) k in
    let ih = inner_none ts h e p.1 in
    let o = outer (has t e.0) (has t e.1) (crosses h e) p.0 in
    omega arith

inner_le : (a b x : Bool) → cond ((a && b) && x) 1 0 ≤ cond x 1 0
inner_le a b x = grind arith

inner_once : (ts : List (List ℕ)) (h : ℕ → Bool) (e : ℕ × ℕ) → AreDisjoint ts → inner_all ts h e ≤ cond (crosses h e) 1 0
inner_once [] h e d = omega arith
inner_once (t ∷ ts) h e d = ⊎_elim
    (λ y. let none = inner_none ts h e (unheld t ts e.0 d.0 y) in let l = inner_le (has t e.0) (has t e.1) (crosses h e) in omega arith)
    (λ n. let ih = inner_once ts h e d.1 in let o = outer (has t e.0) (has t e.1) (crosses h e) n in omega arith)
    (cases_Bool (has t e.0))

inners_all-nil : (ts : List (List ℕ)) (h : ℕ → Bool) → inners_all ts h [] ≡ 0
inners_all-nil [] h = refl
inners_all-nil (t ∷ ts) h = let ih = inners_all-nil ts h in omega arith

inners_all-cons : (ts : List (List ℕ)) (h : ℕ → Bool) (e : ℕ × ℕ) (es : List (ℕ × ℕ)) → inners_all ts h (e ∷ es) ≡ inner_all ts h e + inners_all ts h es
inners_all-cons [] h e es = refl
inners_all-cons (t ∷ ts) h e es = let ih = inners_all-cons ts h e es in omega arith

-- each crossing of the handle is inside one tooth at most
inners_within : (ts : List (List ℕ)) (h : ℕ → Bool) (es : List (ℕ × ℕ)) → AreDisjoint ts → inners_all ts h es ≤ crossings h es
inners_within ts h [] d = let z = inners_all-nil ts h in omega arith
inners_within ts h (e ∷ es) d =
    let ih = inners_within ts h es d in
    let c = inners_all-cons ts h e es in
    let o = inner_once ts h e d in
    omega arith

-- ---- the comb

pub meet_at : (t s : List ℕ) → meet t s ≡ true → (x : ℕ) × ((has t x ≡ true) × (has s x ≡ true))
meet_at [] s h = cc
meet_at (c ∷ cs) s h = ⊎_elim
    (λ e. (c, (or_left _ _ (eq-eqb c c refl), e)))
    (λ e. let r = meet_at cs s e in (r.0, (or_right _ _ r.1.0, r.1.1)))
    (or_cases (has s c) (meet cs s) h)

leaves_at : (t s : List ℕ) → leaves t s ≡ true → (x : ℕ) × ((has t x ≡ true) × (has s x ≡ false))
leaves_at [] s h = cc
leaves_at (c ∷ cs) s h = ⊎_elim
    (λ e. (c, (or_left _ _ (eq-eqb c c refl), not-true (has s c) e)))
    (λ e. let r = leaves_at cs s e in (r.0, (or_right _ _ r.1.0, r.1.1)))
    (or_cases (not (has s c)) (leaves cs s) h)

one_tooth : (n : ℕ) (tour h t : List ℕ) (z : ℕ) → IsTour n tour → IsTooth n h t → has tour z ≡ true → has t z ≡ false
    → 3 ≤ crossings (has t) (steps tour) + inners (has t) (has h) (steps tour)
one_tooth n tour h t z is k iz tz =
    let x = meet_at t h k.inside in
    let y = leaves_at t h k.outside in
    let inside = λ (c : ℕ) (i : has t c ≡ true). tour_has n tour is c (within_rising 0 t n c k.set i) in
    tooth (has t) (has h) tour x.0 y.0 z (inside x.0 x.1.0) (inside y.0 y.1.0) iz x.1.0 x.1.1 y.1.0 y.1.1 tz

-- teeth that do not hold z
threes : (n : ℕ) (tour h : List ℕ) (z : ℕ) (ts : List (List ℕ)) → IsTour n tour → AllByRecursion (IsTooth n h) ts → has tour z ≡ true → held ts z ≡ false
    → 3 * length ts ≤ crossings_of_all ts (steps tour) + inners_all ts (has h) (steps tour)
threes n tour h z [] is al iz k = omega arith
threes n tour h z (t ∷ ts) is al iz k =
    let p = or_parts (has t z) (held ts z) k in
    let ih = threes n tour h z ts is al.1 iz p.1 in
    let one = one_tooth n tour h t z is al.0 iz p.0 in
    omega arith

all_even : (tour : List ℕ) (ts : List (List ℕ)) → crossings_of_all ts (steps tour) % 2 ≡ 0
all_even tour [] = refl
all_even tour (t ∷ ts) = let ih = all_even tour ts in let e = tour_parity (has t) tour in omega arith

at_least_threes : (n : ℕ) (tour h : List ℕ) (ts : List (List ℕ)) → IsTour n tour → AllByRecursion (IsTooth n h) ts → AreDisjoint ts → 3 ≤ length ts
    → 3 * length ts ≤ crossings_of_all ts (steps tour) + inners_all ts (has h) (steps tour)
at_least_threes n tour h [] is al d l = absurd (omega arith)
at_least_threes n tour h (t ∷ []) is al d l = absurd (omega arith)
at_least_threes n tour h (t ∷ s ∷ ss) is al d l =
    let x = meet_at t h al.0.inside in
    let y = meet_at s h al.1.0.inside in
    let ix = tour_has n tour is x.0 (within_rising 0 t n x.0 al.0.set x.1.0) in
    let iy = tour_has n tour is y.0 (within_rising 0 s n y.0 al.1.0.set y.1.0) in
    let rest = threes n tour h x.0 (s ∷ ss) is al.1 ix (unheld t (s ∷ ss) x.0 d.0 x.1.0) in
    let apart : has t y.0 ≡ false = elim (has t y.0) as (λ b. has t y.0 ≡ b → has t y.0 ≡ false) [ true ↦ λ e. let u = unheld t (s ∷ ss) y.0 d.0 e in let p = (or_parts (has s y.0) (held ss y.0) u).0 in let q = y.1.0 in cc | false ↦ λ e. e ] refl in
    let first = one_tooth n tour h t y.0 is al.0 iy apart in
    omega arith

pub comb_law : (n : ℕ) (tour handle : List ℕ) (teeth : List (List ℕ)) → IsTour n tour → IsComb n handle teeth
    → 3 * length teeth + 1 ≤ crossings (has handle) (steps tour) + crossings_of_all teeth (steps tour)
comb_law n tour h ts is k =
    let three = at_least_threes n tour h ts is k.each_tooth k.disjoint k.many in
    let within = inners_within ts (has h) (steps tour) k.disjoint in
    let even = tour_parity (has h) tour in
    let evens = all_even tour ts in
    let odd = k.odd in
    omega arith
