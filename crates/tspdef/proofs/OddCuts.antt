-- The law of odd cuts: a tour that uses a pair crosses it twice as a set, any other pair four times; it crosses the handle once at
-- least for each pair that it uses, and an even number of times in all.
use Rattle.std.proofs.Common.{◌≡◌, ℕ, ◌+◌, ◌*◌, ◌<◌, ◌≤◌, Bool, true, false, cond, eqb, ◌&&◌, ◌||◌, not, List, [], ◌∷◌, length, map, refl, sym, ◌∙◌, ap, subst, arith, ⊎_elim, ◌⊎◌, inl, inr}
use Rattle.std.proofs.lemmas.Bool.{cases_Bool, cases_lt, or_cases, or_parts, or_from, or_left, or_right, and_parts, eqb-true, ne_eqb, eq-eqb, cond-true, cond-false}
use Rattle.std.specs.List.{AllByRecursion}
use Rattle.tspdef.specs.Sets.{has}
use Rattle.tspdef.specs.Tours.{steps, IsTour, joins, has_step, crosses, crossings}
use Rattle.tspdef.specs.Fixed.{IsPairBefore, PairsRise, AreRisingPairs}
use Rattle.tspdef.specs.Cuts.{pair_set, IsOdd, crossings_of_all}
use Rattle.tspdef.proofs.Steps.{tour_has, joins_is}
use Rattle.tspdef.proofs.CrossingLemmas.{tour_parity, tour_crosses}
use Rattle.tspdef.proofs.Combs.{inner, inners, parts}

abbrev pub AreBelow : ℕ → List (ℕ × ℕ) → Type 0
AreBelow n ps = AllByRecursion (λ p. (p.0 < p.1) × (p.1 < n)) ps

-- ---- of different pairs one at most joins two cities

-- how many of the pairs join the ends of a step
abbrev pub joined : List (ℕ × ℕ) → (ℕ × ℕ) → ℕ
joined [] e = 0
joined (p ∷ ps) e = cond (joins p.0 p.1 e) 1 0 + joined ps e

before_both : (p q r : ℕ × ℕ) → IsPairBefore p q → IsPairBefore q r → IsPairBefore p r
before_both p q r a b = ⊎_elim
    (λ x. ⊎_elim (λ y. inl (omega arith)) (λ y. let e = y.0 in inl (omega arith)) b)
    (λ x. let f = x.0 in let g = x.1 in ⊎_elim (λ y. inl (omega arith)) (λ y. let e = y.0 in let k = y.1 in inr (omega arith, omega arith)) b)
    a

behind : (p q : ℕ × ℕ) (qs : List (ℕ × ℕ)) → IsPairBefore p q → PairsRise q qs → PairsRise p qs
behind p q [] b r = tt
behind p q (s ∷ ss) b r = (before_both p q s b r.0, r.1)

pub rising_tail : (p : ℕ × ℕ) (qs : List (ℕ × ℕ)) → PairsRise p qs → AreRisingPairs qs
rising_tail p [] r = tt
rising_tail p (q ∷ qs) r = r.1

unlike : (p q e : ℕ × ℕ) → p.0 < p.1 → q.0 < q.1 → IsPairBefore p q → joins p.0 p.1 e ≡ true → joins q.0 q.1 e ≡ true → ⊥
unlike p q e a b before j k = ⊎_elim
    (λ x. let x0 = x.0 in let x1 = x.1 in ⊎_elim
    (λ y. let y0 = y.0 in let y1 = y.1 in ⊎_elim (λ z. omega arith) (λ z. let z1 = z.1 in omega arith) before)
    (λ y. let y0 = y.0 in let y1 = y.1 in omega arith)
    (joins_is e.0 e.1 q.0 q.1 k))
    (λ x. let x0 = x.0 in let x1 = x.1 in ⊎_elim
    (λ y. let y0 = y.0 in let y1 = y.1 in omega arith)
    (λ y. let y0 = y.0 in let y1 = y.1 in ⊎_elim (λ z. omega arith) (λ z. let z1 = z.1 in omega arith) before)
    (joins_is e.0 e.1 q.0 q.1 k))
    (joins_is e.0 e.1 p.0 p.1 j)

none_joins : (n : ℕ) (p : ℕ × ℕ) (qs : List (ℕ × ℕ)) (e : ℕ × ℕ) → p.0 < p.1 → AreBelow n qs → PairsRise p qs → joins p.0 p.1 e ≡ true → joined qs e ≡ 0
none_joins n p [] e l al r j = refl
none_joins n p (q ∷ qs) e l al r j =
    let ih = none_joins n p qs e l al.1 (behind p q qs r.0 r.1) j in
    ⊎_elim
    (λ k. absurd (unlike p q e l al.0.0 r.0 j k))
    (λ k. let z : ◌≡◌ {A = ℕ} (cond (joins q.0 q.1 e) 1 0) 0 = cond-false _ _ _ k in omega arith)
    (cases_Bool (joins q.0 q.1 e))

pub one_joins : (n : ℕ) (ps : List (ℕ × ℕ)) (e : ℕ × ℕ) → AreBelow n ps → AreRisingPairs ps → joined ps e ≤ 1
one_joins n [] e al r = omega arith
one_joins n (p ∷ ps) e al r = ⊎_elim
    (λ j. let z = none_joins n p ps e al.0.0 al.1 r j in let o : ◌≡◌ {A = ℕ} (cond (joins p.0 p.1 e) 1 0) 1 = cond-true _ _ _ j in omega arith)
    (λ j. let ih = one_joins n ps e al.1 (rising_tail p ps r) in let o : ◌≡◌ {A = ℕ} (cond (joins p.0 p.1 e) 1 0) 0 = cond-false _ _ _ j in omega arith)
    (cases_Bool (joins p.0 p.1 e))

-- ---- used pairs cross the handle

crosses_swap : (x y : Bool) → cond x (not y) y ≡ cond y (not x) x
crosses_swap true true = refl
crosses_swap true false = refl
crosses_swap false true = refl
crosses_swap false false = refl

-- a step that joins two cities crosses what they cross
crosses_same : (s : ℕ → Bool) (u v : ℕ) (e : ℕ × ℕ) → joins u v e ≡ true → crosses s e ≡ crosses s (u, v)
crosses_same s u v e j = ⊎_elim
    (λ x. ap (λ k. cond (s k) (not (s e.1)) (s e.1)) x.0 ∙ ap (λ k. cond (s u) (not (s k)) (s k)) x.1)
    (λ x. ap (λ k. cond (s k) (not (s e.1)) (s e.1)) x.0 ∙ (ap (λ k. cond (s v) (not (s k)) (s k)) x.1 ∙ crosses_swap (s v) (s u)))
    (joins_is e.0 e.1 u v j)

joined_cross : (n : ℕ) (s : ℕ → Bool) (ps : List (ℕ × ℕ)) (e : ℕ × ℕ) → AreBelow n ps → AreRisingPairs ps → AllByRecursion (λ p. crosses s p ≡ true) ps
    → joined ps e ≤ cond (crosses s e) 1 0
joined_cross n s [] e al r c = omega arith
joined_cross n s (p ∷ ps) e al r c = ⊎_elim
    (λ j. let z = none_joins n p ps e al.0.0 al.1 r j in
    let o : ◌≡◌ {A = ℕ} (cond (joins p.0 p.1 e) 1 0) 1 = cond-true _ _ _ j in
    let x : ◌≡◌ {A = ℕ} (cond (crosses s e) 1 0) 1 = cond-true _ _ _ (crosses_same s p.0 p.1 e j ∙ c.0) in omega arith)
    (λ j. let ih = joined_cross n s ps e al.1 (rising_tail p ps r) c.1 in let o : ◌≡◌ {A = ℕ} (cond (joins p.0 p.1 e) 1 0) 0 = cond-false _ _ _ j in omega arith)
    (cases_Bool (joins p.0 p.1 e))

-- how many of the pairs are steps
abbrev used : List (ℕ × ℕ) → List (ℕ × ℕ) → ℕ
used [] es = 0
used (p ∷ ps) es = cond (has_step es p.0 p.1) 1 0 + used ps es

used_none : (ps : List (ℕ × ℕ)) → used ps [] ≡ 0
used_none [] = refl
used_none (p ∷ ps) = let ih = used_none ps in omega arith

either : (x y : Bool) → cond (x || y) 1 0 ≤ cond x 1 0 + cond y 1 0
either x y = grind arith

used_step : (ps : List (ℕ × ℕ)) (e : ℕ × ℕ) (es : List (ℕ × ℕ)) → used ps (e ∷ es) ≤ joined ps e + used ps es
used_step [] e es = omega arith
used_step (p ∷ ps) e es = let ih = used_step ps e es in let o = either (joins p.0 p.1 e) (has_step es p.0 p.1) in omega arith

used_cross : (n : ℕ) (s : ℕ → Bool) (ps es : List (ℕ × ℕ)) → AreBelow n ps → AreRisingPairs ps → AllByRecursion (λ p. crosses s p ≡ true) ps → used ps es ≤ crossings s es
used_cross n s ps [] al r c = let z = used_none ps in omega arith
used_cross n s ps (e ∷ es) al r c =
    let ih = used_cross n s ps es al r c in
    let step = used_step ps e es in
    let one = joined_cross n s ps e al r c in
    omega arith

one_most : (x : Bool) → cond x 1 0 ≤ 1
one_most x = grind arith

used_few : (ps es : List (ℕ × ℕ)) → used ps es ≤ length ps
used_few [] es = omega arith
used_few (p ∷ ps) es = let ih = used_few ps es in let o = one_most (has_step es p.0 p.1) in omega arith

-- ---- how often a pair is crossed as a set

-- a city other than two
third : (a b n : ℕ) → a < b → b < n → 3 ≤ n → (c : ℕ) × ((c < n) × ((a ≡ c → ⊥) × (b ≡ c → ⊥)))
third a b n l m k = ⊎_elim
    (λ x. (0, (omega arith, ((λ e. omega arith), (λ e. omega arith)))))
    (λ x. ⊎_elim
    (λ y. (1, (omega arith, ((λ e. omega arith), (λ e. omega arith)))))
    (λ y. (2, (omega arith, ((λ e. omega arith), (λ e. omega arith)))))
    (cases_lt 1 b))
    (cases_lt 0 a)

has_first : (a b : ℕ) → has (a ∷ b ∷ []) a ≡ true
has_first a b = or_left _ _ (eq-eqb a a refl)

has_second : (a b : ℕ) → has (a ∷ b ∷ []) b ≡ true
has_second a b = or_right _ _ (or_left _ _ (eq-eqb b b refl))

has_none : (a b c : ℕ) → (a ≡ c → ⊥) → (b ≡ c → ⊥) → has (a ∷ b ∷ []) c ≡ false
has_none a b c x y = or_from _ _ (ne_eqb a c x) (or_from _ _ (ne_eqb b c y) refl)

has_pair : (a b c : ℕ) → has (a ∷ b ∷ []) c ≡ true → (c ≡ a) ⊎ (c ≡ b)
has_pair a b c h = ⊎_elim (λ e. inl (sym (eqb-true a c e))) (λ e. ⊎_elim (λ f. inr (sym (eqb-true b c f))) (λ f. cc) (or_cases (eqb b c) false e)) (or_cases (eqb a c) (eqb b c || false) h)

same_side : (x : Bool) → cond x (not x) x ≡ false
same_side true = refl
same_side false = refl

joins_self : (a b : ℕ) → joins a b (a, b) ≡ true
joins_self a b = let x = eq-eqb a a refl in let y = eq-eqb b b refl in cc

joins_other : (a b : ℕ) → joins a b (b, a) ≡ true
joins_other a b = let x = eq-eqb a a refl in let y = eq-eqb b b refl in or_right (eqb b a && eqb a b) (eqb b b && eqb a a) (rw (y, x) refl)

-- a step within the pair that has one end at a joins the pair
inner_joins : (a b : ℕ) (e : ℕ × ℕ) → inner (has (a ∷ b ∷ [])) (λ c. eqb a c) e ≡ true → joins a b e ≡ true
inner_joins a b e h =
    let p = and_parts (has (a ∷ b ∷ []) e.0 && has (a ∷ b ∷ []) e.1) (crosses (λ c. eqb a c) e) h in
    let q = and_parts (has (a ∷ b ∷ []) e.0) (has (a ∷ b ∷ []) e.1) p.0 in
    ⊎_elim
    (λ x. ⊎_elim
    (λ y. let s : crosses (λ c. eqb a c) e ≡ false = subst (λ k. cond (eqb a k) (not (eqb a e.1)) (eqb a e.1) ≡ false) (sym (x ∙ sym y)) (same_side (eqb a e.1)) in cc)
    (λ y. subst (λ k. joins a b (k, e.1) ≡ true) (sym x) (subst (λ k. joins a b (a, k) ≡ true) (sym y) (joins_self a b)))
    (has_pair a b e.1 q.1))
    (λ x. ⊎_elim
    (λ y. subst (λ k. joins a b (k, e.1) ≡ true) (sym x) (subst (λ k. joins a b (b, k) ≡ true) (sym y) (joins_other a b)))
    (λ y. let s : crosses (λ c. eqb a c) e ≡ false = subst (λ k. cond (eqb a k) (not (eqb a e.1)) (eqb a e.1) ≡ false) (sym (x ∙ sym y)) (same_side (eqb a e.1)) in cc)
    (has_pair a b e.1 q.1))
    (has_pair a b e.0 q.0)

no_inner : (a b : ℕ) (es : List (ℕ × ℕ)) → has_step es a b ≡ false → inners (has (a ∷ b ∷ [])) (λ c. eqb a c) es ≡ 0
no_inner a b [] h = refl
no_inner a b (e ∷ es) h =
    let p = or_parts (joins a b e) (has_step es a b) h in
    let ih = no_inner a b es p.1 in
    ⊎_elim
    (λ t. let j = inner_joins a b e t in cc)
    (λ f. let z : ◌≡◌ {A = ℕ} (cond (inner (has (a ∷ b ∷ [])) (λ c. eqb a c) e) 1 0) 0 = cond-false _ _ _ f in omega arith)
    (cases_Bool (inner (has (a ∷ b ∷ [])) (λ c. eqb a c) e))

-- twice where the tour uses the pair, four times where it does not
pair_crossed : (n : ℕ) (tour : List ℕ) (a b : ℕ) → 3 ≤ n → IsTour n tour → a < b → b < n
    → 4 ≤ crossings (has (a ∷ b ∷ [])) (steps tour) + 2 * cond (has_step (steps tour) a b) 1 0
pair_crossed n tour a b three is l m =
    let ia = tour_has n tour is a (omega arith) in
    let ib = tour_has n tour is b m in
    ⊎_elim
    (λ u. let c = third a b n l m three in
    let ic = tour_has n tour is c.0 c.1.0 in
    let two = tour_crosses (has (a ∷ b ∷ [])) tour a c.0 ia ic (has_first a b) (has_none a b c.0 c.1.1.0 c.1.1.1) in
    let o : ◌≡◌ {A = ℕ} (cond (has_step (steps tour) a b) 1 0) 1 = cond-true _ _ _ u in omega arith)
    (λ u. let ne : eqb a b ≡ false = ne_eqb a b (λ e. omega arith) in
    let same : eqb a a ≡ true = eq-eqb a a refl in
    let inside = tour_crosses (λ c. has (a ∷ b ∷ []) c && eqb a c) tour a b ia ib (rw (has_first a b, same)) (rw (has_second a b, ne)) in
    let outside = tour_crosses (λ c. has (a ∷ b ∷ []) c && not (eqb a c)) tour b a ib ia (rw (has_second a b, ne)) (rw (has_first a b, same)) in
    let split = parts (has (a ∷ b ∷ [])) (λ c. eqb a c) (steps tour) in
    let none = no_inner a b (steps tour) u in
    omega arith)
    (cases_Bool (has_step (steps tour) a b))

pairs_crossed : (n : ℕ) (tour : List ℕ) (ps : List (ℕ × ℕ)) → 3 ≤ n → IsTour n tour → AreBelow n ps
    → 4 * length ps ≤ crossings_of_all (map pair_set ps) (steps tour) + 2 * used ps (steps tour)
pairs_crossed n tour [] three is al = omega arith
pairs_crossed n tour (p ∷ ps) three is al =
    let ih = pairs_crossed n tour ps three is al.1 in
    let one = pair_crossed n tour p.0 p.1 three is al.0.0 al.0.1 in
    omega arith

pub odd_law : (n : ℕ) (tour handle : List ℕ) (pairs : List (ℕ × ℕ)) → 3 ≤ n → IsTour n tour → IsOdd n handle pairs
    → 3 * length pairs + 1 ≤ crossings (has handle) (steps tour) + crossings_of_all (map pair_set pairs) (steps tour)
odd_law n tour h ps three is k =
    let each = pairs_crossed n tour ps three is k.below in
    let cross = used_cross n (has h) ps (steps tour) k.below k.rising k.crossed in
    let few = used_few ps (steps tour) in
    let even = tour_parity (has h) tour in
    let odd = k.odd in
    omega arith
