-- Fixed pairs, counted at a city.
use Rattle.std.proofs.Common.{◌≡◌, ℕ, ◌+◌, ◌<◌, ◌≤◌, Bool, true, false, cond, eqb, ◌||◌, List, [], ◌∷◌, refl, sym, ◌∙◌, arith, inl, inr, ⊎_elim}
use Rattle.std.specs.List.{AllByRecursion}
use Rattle.std.proofs.lemmas.Bool.{cases_Bool, or_cases, or_left, or_right, eq-eqb, eqb-true, cond-true, cond-false, and_from}
use Rattle.tspdef.specs.Tours.{joins, has_step}
use Rattle.tspdef.specs.Fixed.{IsPairBefore, PairsRise, AreRisingPairs, pairs_at, NoneLeaves, AreSteps}
use Rattle.tspdef.proofs.Steps.{joins_is}

-- the lower city first, and the other below n
abbrev pub AreBelow : ℕ → List (ℕ × ℕ) → Type 0
AreBelow n pairs = AllByRecursion (λ p. (p.0 < p.1) × (p.1 < n)) pairs

pub joins_itself : (p : ℕ × ℕ) → joins p.0 p.1 p ≡ true
joins_itself p = or_left _ _ (and_from _ _ (eq-eqb p.0 p.0 refl) (eq-eqb p.1 p.1 refl))

joins_other : (a b : ℕ) → joins b a (a, b) ≡ true
joins_other a b = or_right _ _ (and_from _ _ (eq-eqb a a refl) (eq-eqb b b refl))

-- ---- how many pairs join two cities

abbrev pub joined : List (ℕ × ℕ) → ℕ → ℕ → ℕ
joined [] c u = 0
joined (p ∷ ps) c u = cond (joins c u p) 1 0 + joined ps c u

abbrev at_bool : Bool → ℕ
at_bool b = cond b 1 0

one_is : (b : Bool) → b ≡ true → at_bool b ≡ 1
one_is b e = cond-true b 1 0 e

none_is : (b : Bool) → b ≡ false → at_bool b ≡ 0
none_is b e = cond-false b 1 0 e

at_most : (b : Bool) → at_bool b ≤ 1
at_most true = omega arith
at_most false = omega arith

joined_some : (ps : List (ℕ × ℕ)) (c u : ℕ) → has_step ps c u ≡ true → 1 ≤ joined ps c u
joined_some [] c u h = absurd (let e : false ≡ true = h in cc)
joined_some (p ∷ ps) c u h = ⊎_elim
    (λ (j : joins c u p ≡ true). let o = one_is _ j in omega arith)
    (λ (j : has_step ps c u ≡ true). let ih = joined_some ps c u j in omega arith)
    (or_cases _ _ h)

joins_at : (a b c u : ℕ) → joins c u (a, b) ≡ true → (eqb a c || eqb b c) ≡ true
joins_at a b c u h = ⊎_elim
    (λ e. or_left _ _ (eq-eqb a c e.0))
    (λ e. or_right _ _ (eq-eqb b c e.1))
    (joins_is a b c u h)

joins_one : (a b c u v : ℕ) → (u ≡ v → ⊥) → joins c u (a, b) ≡ true → joins c v (a, b) ≡ false
joins_one a b c u v ne h = ⊎_elim
    (λ (k : joins c v (a, b) ≡ true). absurd (⊎_elim
    (λ e. ⊎_elim (λ f. ne (sym e.1 ∙ f.1)) (λ f. ne (sym e.1 ∙ f.1 ∙ sym e.0 ∙ f.0)) (joins_is a b c v k))
    (λ e. ⊎_elim (λ f. ne (sym e.0 ∙ f.0 ∙ sym e.1 ∙ f.1)) (λ f. ne (sym e.0 ∙ f.0)) (joins_is a b c v k))
    (joins_is a b c u h)))
    (λ (k : joins c v (a, b) ≡ false). k)
    (cases_Bool (joins c v (a, b)))

-- of three pairs that one may be, it is one at most, and then it has the city
one_of_three : (a b c u v w : ℕ) → (u ≡ v → ⊥) → (u ≡ w → ⊥) → (v ≡ w → ⊥)
    → cond (joins c u (a, b)) 1 0 + cond (joins c v (a, b)) 1 0 + cond (joins c w (a, b)) 1 0 ≤ cond (eqb a c || eqb b c) 1 0
one_of_three a b c u v w uv uw vw = ⊎_elim
    (λ (j : joins c u (a, b) ≡ true).
    let x = none_is _ (joins_one a b c u v uv j) in
    let y = none_is _ (joins_one a b c u w uw j) in
    let z = one_is _ (joins_at a b c u j) in
    let o = at_most (joins c u (a, b)) in omega arith)
    (λ (j : joins c u (a, b) ≡ false). let z = none_is _ j in ⊎_elim
    (λ (k : joins c v (a, b) ≡ true).
    let y = none_is _ (joins_one a b c v w vw k) in
    let x = one_is _ (joins_at a b c v k) in
    let o = at_most (joins c v (a, b)) in omega arith)
    (λ (k : joins c v (a, b) ≡ false). let y = none_is _ k in ⊎_elim
    (λ (l : joins c w (a, b) ≡ true). let x = one_is _ (joins_at a b c w l) in let o = at_most (joins c w (a, b)) in omega arith)
    (λ (l : joins c w (a, b) ≡ false). let x = none_is _ l in omega arith)
    (cases_Bool (joins c w (a, b))))
    (cases_Bool (joins c v (a, b))))
    (cases_Bool (joins c u (a, b)))

three_joined : (ps : List (ℕ × ℕ)) (c u v w : ℕ) → (u ≡ v → ⊥) → (u ≡ w → ⊥) → (v ≡ w → ⊥) → joined ps c u + joined ps c v + joined ps c w ≤ pairs_at ps c
three_joined [] c u v w uv uw vw = omega arith
three_joined (p ∷ ps) c u v w uv uw vw =
    let ih = three_joined ps c u v w uv uw vw in
    let o = one_of_three p.0 p.1 c u v w uv uw vw in
    omega arith

pub three_partners : (ps : List (ℕ × ℕ)) (c u v w : ℕ) → (u ≡ v → ⊥) → (u ≡ w → ⊥) → (v ≡ w → ⊥)
    → has_step ps c u ≡ true → has_step ps c v ≡ true → has_step ps c w ≡ true → 3 ≤ pairs_at ps c
three_partners ps c u v w uv uw vw hu hv hw =
    let x = joined_some ps c u hu in
    let y = joined_some ps c v hv in
    let z = joined_some ps c w hw in
    let t = three_joined ps c u v w uv uw vw in
    omega arith

pub two_partners : (ps : List (ℕ × ℕ)) (c u v : ℕ) → (u ≡ v → ⊥) → has_step ps c u ≡ true → has_step ps c v ≡ true → 2 ≤ pairs_at ps c
two_partners ps c u v uv hu hv =
    let x = joined_some ps c u hu in
    let y = joined_some ps c v hv in
    let t = three_joined ps c u v (u + v + 1) uv (λ e. absurd (omega arith)) (λ e. absurd (omega arith)) in
    omega arith

-- ---- no pair twice

later : (p q r : ℕ × ℕ) → IsPairBefore p q → IsPairBefore q r → IsPairBefore p r
later p q r a b = ⊎_elim
    (λ l. ⊎_elim (λ m. inl (omega arith)) (λ m. let x = m.0 in inl (omega arith)) b)
    (λ l. let y = l.0 in let z = l.1 in ⊎_elim (λ m. inl (omega arith)) (λ m. let x = m.0 in let w = m.1 in inr (omega arith, omega arith)) b) a

other_pair : (p q : ℕ × ℕ) (c u : ℕ) → p.0 < p.1 → q.0 < q.1 → IsPairBefore p q → joins c u p ≡ true → joins c u q ≡ false
other_pair p q c u lp lq before h = ⊎_elim
    (λ (k : joins c u q ≡ true). absurd (⊎_elim
    (λ e. let e0 = e.0 in let e1 = e.1 in ⊎_elim
    (λ f. let f0 = f.0 in let f1 = f.1 in ⊎_elim (λ l. omega arith) (λ l. let l1 = l.1 in omega arith) before)
    (λ f. let f0 = f.0 in let f1 = f.1 in omega arith) (joins_is q.0 q.1 c u k))
    (λ e. let e0 = e.0 in let e1 = e.1 in ⊎_elim
    (λ f. let f0 = f.0 in let f1 = f.1 in omega arith)
    (λ f. let f0 = f.0 in let f1 = f.1 in ⊎_elim (λ l. omega arith) (λ l. let l1 = l.1 in omega arith) before) (joins_is q.0 q.1 c u k))
    (joins_is p.0 p.1 c u h)))
    (λ (k : joins c u q ≡ false). k)
    (cases_Bool (joins c u q))

none_later : (n : ℕ) (p r : ℕ × ℕ) (qs : List (ℕ × ℕ)) (c u : ℕ) → p.0 < p.1 → AreBelow n qs → PairsRise r qs → ((q : ℕ × ℕ) → IsPairBefore r q → IsPairBefore p q) → joins c u p ≡ true → joined qs c u ≡ 0
none_later n p r [] c u lp below rise from h = omega arith
none_later n p r (q ∷ qs) c u lp below rise from h =
    let x = none_is _ (other_pair p q c u lp below.0.0 (from q rise.0) h) in
    let ih = none_later n p q qs c u lp below.1 rise.1 (λ s b. later p q s (from q rise.0) b) h in
    omega arith

rising_rest : (p : ℕ × ℕ) (ps : List (ℕ × ℕ)) → PairsRise p ps → AreRisingPairs ps
rising_rest p [] r = tt
rising_rest p (q ∷ qs) r = r.1

joined_once : (n : ℕ) (ps : List (ℕ × ℕ)) (c u : ℕ) → AreBelow n ps → AreRisingPairs ps → joined ps c u ≤ 1
joined_once n [] c u below rise = omega arith
joined_once n (p ∷ ps) c u below rise = ⊎_elim
    (λ (j : joins c u p ≡ true).
    let x = one_is _ j in
    let y = none_later n p p ps c u below.0.0 below.1 rise (λ q b. b) j in
    omega arith)
    (λ (j : joins c u p ≡ false).
    let x = none_is _ j in
    let ih = joined_once n ps c u below.1 (rising_rest p ps rise) in
    omega arith)
    (cases_Bool (joins c u p))

-- ---- a partner that is another

pub record IsPartnerBeside (ps : List (ℕ × ℕ)) (c u w : ℕ) : Type 0 where
  pub joined : has_step ps c w ≡ true
  pub other : w ≡ u → ⊥

beside_more : (p : ℕ × ℕ) (ps : List (ℕ × ℕ)) (c u w : ℕ) → IsPartnerBeside ps c u w → IsPartnerBeside (p ∷ ps) c u w
beside_more p ps c u w h = record { joined = or_right _ _ h.joined; other = h.other }

beside_here : (a b : ℕ) (ps : List (ℕ × ℕ)) (c u : ℕ) → joins c u (a, b) ≡ false → (eqb a c || eqb b c) ≡ true → (w : ℕ) × IsPartnerBeside ((a, b) ∷ ps) c u w
beside_here a b ps c u none h = ⊎_elim
    (λ (e : eqb a c ≡ true).
    let at = eqb-true a c e in (
      b,
      record {
        joined = or_left _ _ (or_left _ _ (and_from _ _ e (eq-eqb b b refl)));
        other = λ f. let yes : joins c u (a, b) ≡ true = or_left _ _ (and_from _ _ e (eq-eqb b u f)) in let x : true ≡ false = sym yes ∙ none in absurd (cc);
      },
    ))
    (λ (e : eqb b c ≡ true). (
      a,
      record {
        joined = or_left _ _ (or_right _ _ (and_from _ _ (eq-eqb a a refl) e));
        other = λ f. let yes : joins c u (a, b) ≡ true = or_right _ _ (and_from _ _ (eq-eqb a u f) e) in let x : true ≡ false = sym yes ∙ none in absurd (cc);
      },
    ))
    (or_cases _ _ h)

beside : (ps : List (ℕ × ℕ)) (c u : ℕ) → joined ps c u < pairs_at ps c → (w : ℕ) × IsPartnerBeside ps c u w
beside [] c u h = absurd (omega arith)
beside (p ∷ ps) c u h = ⊎_elim
    (λ (j : joins c u p ≡ true).
    let x = one_is _ j in
    let o = at_most (eqb p.0 c || eqb p.1 c) in
    let r = beside ps c u (omega arith) in
    (r.0, beside_more p ps c u r.0 r.1))
    (λ (j : joins c u p ≡ false). ⊎_elim
    (λ (k : (eqb p.0 c || eqb p.1 c) ≡ true). beside_here p.0 p.1 ps c u j k)
    (λ (k : (eqb p.0 c || eqb p.1 c) ≡ false).
    let x = none_is _ j in
    let y = none_is _ k in
    let r = beside ps c u (omega arith) in
    (r.0, beside_more p ps c u r.0 r.1))
    (cases_Bool (eqb p.0 c || eqb p.1 c)))
    (cases_Bool (joins c u p))

-- a city with two pairs has a partner beside any city
pub other_partner : (n : ℕ) (ps : List (ℕ × ℕ)) (c u : ℕ) → AreBelow n ps → AreRisingPairs ps → 2 ≤ pairs_at ps c → (w : ℕ) × IsPartnerBeside ps c u w
other_partner n ps c u below rise two = let o = joined_once n ps c u below rise in beside ps c u (omega arith)

-- ---- pairs as steps

pub no_pair_with_itself : (n : ℕ) (ps : List (ℕ × ℕ)) (c : ℕ) → AreBelow n ps → has_step ps c c ≡ true → ⊥
no_pair_with_itself n [] c below h = absurd (let e : false ≡ true = h in cc)
no_pair_with_itself n (p ∷ ps) c below h = ⊎_elim
    (λ (j : joins c c p ≡ true). let l = below.0.0 in absurd (⊎_elim (λ e. let x = e.0 in let y = e.1 in omega arith) (λ e. let x = e.0 in let y = e.1 in omega arith) (joins_is p.0 p.1 c c j)))
    (λ (j : has_step ps c c ≡ true). no_pair_with_itself n ps c below.1 j)
    (or_cases _ _ h)

pub partner_below : (n : ℕ) (ps : List (ℕ × ℕ)) (u v : ℕ) → AreBelow n ps → has_step ps u v ≡ true → v < n
partner_below n [] u v below h = absurd (let e : false ≡ true = h in cc)
partner_below n (p ∷ ps) u v below h = ⊎_elim
    (λ (j : joins u v p ≡ true). let l = below.0.0 in let m = below.0.1 in ⊎_elim (λ e. let x = e.1 in omega arith) (λ e. let x = e.0 in omega arith) (joins_is p.0 p.1 u v j))
    (λ (j : has_step ps u v ≡ true). partner_below n ps u v below.1 j)
    (or_cases _ _ h)

pub all_steps : (es ps : List (ℕ × ℕ)) → ((u v : ℕ) → has_step ps u v ≡ true → has_step es u v ≡ true) → AreSteps es ps
all_steps es [] f = tt
all_steps es (p ∷ ps) f = (f p.0 p.1 (or_left _ _ (joins_itself p)), all_steps es ps (λ u v h. f u v (or_right _ _ h)))

-- no pair leaves a set, where the partners of its cities are in it
pub none_leaves : (ps : List (ℕ × ℕ)) (s : ℕ → Bool) → ((u v : ℕ) → has_step ps u v ≡ true → s u ≡ true → s v ≡ true) → NoneLeaves ps s
none_leaves [] s f = tt
none_leaves (p ∷ ps) s f = (
  ⊎_elim
      (λ (a : s p.0 ≡ true). a ∙ sym (f p.0 p.1 (or_left _ _ (joins_itself p)) a))
      (λ (a : s p.0 ≡ false). ⊎_elim
      (λ (b : s p.1 ≡ true).
      let back : s p.0 ≡ true = f p.1 p.0 (or_left _ _ (joins_other p.0 p.1)) b in
      let x : true ≡ false = sym back ∙ a in absurd (cc))
      (λ (b : s p.1 ≡ false). a ∙ sym b)
      (cases_Bool (s p.1)))
      (cases_Bool (s p.0)),
  none_leaves ps s (λ u v h. f u v (or_right _ _ h)),
)
