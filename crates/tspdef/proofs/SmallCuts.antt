use Rattle.std.proofs.Common.{◌≡◌, ℕ, zero, suc, ◌+◌, ◌<◌, ◌≤◌, Bool, true, false, cond, eqb, ◌&&◌, ◌||◌, not, List, [], ◌∷◌, length, map, refl, sym, subst, arith, ⊎_elim, ◌⊎◌, inl, inr}
use Rattle.std.specs.Prelude.{pos, ◌+ℤ◌, ◌≤ℤ◌}
use Rattle.std.specs.List.{AllByRecursion}
use Rattle.std.proofs.lemmas.Int.{ints}
use Rattle.std.proofs.lemmas.Bool.{cases_Bool, cases_lt, or_parts, or_from, or_left, or_right, eqb-true, eq-eqb, ne_eqb, cond-true, cond-false}
use Rattle.tspdef.specs.Sets.{has, AreDisjoint}
use Rattle.tspdef.specs.Tours.{joins}
use Rattle.tspdef.specs.Fixed.{pairs_at, AreRisingPairs}
use Rattle.tspdef.specs.Cuts.{subtour, comb, odd, pair_set, IsTooth, IsComb, coefficient}
use Rattle.tspdef.specs.Sums.{sum_below}
use Rattle.tspdef.specs.Laws.{CutsAreSmall}
use Rattle.tspdef.proofs.SumLemmas.{sum_below-same, sum_below-le, sum_below-add, sum_below-at, sum_below-zero}
use Rattle.tspdef.proofs.CrossingLemmas.{within_rising}
use Rattle.tspdef.proofs.Steps.{joins_is}
use Rattle.tspdef.proofs.Combs.{held, unheld, meet_at}
use Rattle.tspdef.proofs.OddCuts.{AreBelow, joined, one_joins}

-- how many of the sets have the city
abbrev holders : List (List ℕ) → ℕ → ℕ
holders [] c = 0
holders (t ∷ ts) c = cond (has t c) 1 0 + holders ts c

none_holds : (ts : List (List ℕ)) (c : ℕ) → held ts c ≡ false → holders ts c ≡ 0
none_holds [] c h = refl
none_holds (t ∷ ts) c h =
    let p = or_parts (has t c) (held ts c) h in
    let ih = none_holds ts c p.1 in
    let z : ◌≡◌ {A = ℕ} (cond (has t c) 1 0) 0 = cond-false _ _ _ p.0 in
    omega arith

-- of disjoint sets one at most has it
one_holds : (ts : List (List ℕ)) (c : ℕ) → AreDisjoint ts → holders ts c ≤ 1
one_holds [] c d = omega arith
one_holds (t ∷ ts) c d = ⊎_elim
    (λ y. let z = none_holds ts c (unheld t ts c d.0 y) in let o : ◌≡◌ {A = ℕ} (cond (has t c) 1 0) 1 = cond-true _ _ _ y in omega arith)
    (λ n. let ih = one_holds ts c d.1 in let z : ◌≡◌ {A = ℕ} (cond (has t c) 1 0) 0 = cond-false _ _ _ n in omega arith)
    (cases_Bool (has t c))

crossed_by : (x y : Bool) → cond (cond x (not y) y) 1 0 ≤ cond x 1 0 + cond y 1 0
crossed_by x y = grind arith

-- a set that has exactly one of two cities has one of them
coefficient_le : (ts : List (List ℕ)) (u v : ℕ) → coefficient ts u v ≤ holders ts u + holders ts v
coefficient_le [] u v = omega arith
coefficient_le (t ∷ ts) u v = let ih = coefficient_le ts u v in let o = crossed_by (has t u) (has t v) in omega arith

one_most : (x y : Bool) → cond (cond x (not y) y) 1 0 ≤ 1
one_most x y = grind arith

-- ---- how many teeth

one_at_most : (n : ℕ) → sum_below (λ c. pos 1) n ≡ pos n
one_at_most zero = refl
one_at_most (suc n) = let ih = one_at_most n in omega (arith, ints)

held_once : (x c : ℕ) (t : List ℕ) → has t x ≡ true → cond (eqb x c) (pos 1) (pos 0) ≤ℤ pos (cond (has t c) 1 0)
held_once x c t h = ⊎_elim
    (λ e. let a : cond (eqb x c) (pos 1) (pos 0) ≡ pos 1 = cond-true _ _ _ e in
    let b : ◌≡◌ {A = ℕ} (cond (has t c) 1 0) 1 = cond-true _ _ _ (subst (λ k. has t k ≡ true) (eqb-true x c e) h) in omega (arith, ints))
    (λ e. let a : cond (eqb x c) (pos 1) (pos 0) ≡ pos 0 = cond-false _ _ _ e in omega (arith, ints))
    (cases_Bool (eqb x c))

-- each tooth is held by a city below n
each_held : (n : ℕ) (h : List ℕ) (ts : List (List ℕ)) → AllByRecursion (IsTooth n h) ts → pos (length ts) ≤ℤ sum_below (λ c. pos (holders ts c)) n
each_held n h [] al = let z = sum_below-zero n in omega (arith, ints)
each_held n h (t ∷ ts) al =
    let ih = each_held n h ts al.1 in
    let x = meet_at t h al.0.inside in
    let inside = within_rising 0 t n x.0 al.0.set x.1.0 in
    let le = sum_below-le (λ c. cond (eqb x.0 c) (pos 1) (pos 0)) (λ c. pos (cond (has t c) 1 0)) n (λ c l. held_once x.0 c t x.1.0) in
    let one = sum_below-at (λ c. pos 1) x.0 n inside in
    let add = sum_below-add (λ c. pos (cond (has t c) 1 0)) (λ c. pos (holders ts c)) n in
    let same = sum_below-same (λ c. pos (cond (has t c) 1 0 + holders ts c)) (λ c. pos (cond (has t c) 1 0) +ℤ pos (holders ts c)) n (λ c l. omega (arith, ints)) in
    omega (arith, ints)

few_teeth : (n : ℕ) (h : List ℕ) (ts : List (List ℕ)) → IsComb n h ts → length ts ≤ n
few_teeth n h ts k =
    let held = each_held n h ts k.each_tooth in
    let le = sum_below-le (λ c. pos (holders ts c)) (λ c. pos 1) n (λ c l. let o = one_holds ts c k.disjoint in omega (arith, ints)) in
    let all = one_at_most n in
    omega (arith, ints)

-- ---- how many pairs an end has

one_most' : (x : Bool) → cond x 1 0 ≤ 1
one_most' x = grind arith

joins_from : (u c : ℕ) (p : ℕ × ℕ) → ((u ≡ p.0) × (c ≡ p.1)) ⊎ ((u ≡ p.1) × (c ≡ p.0)) → joins p.0 p.1 (u, c) ≡ true
joins_from u c p h = ⊎_elim
    (λ x. let a = eq-eqb u p.0 x.0 in let b = eq-eqb c p.1 x.1 in or_left (eqb u p.0 && eqb c p.1) (eqb u p.1 && eqb c p.0) (rw (a, b) refl))
    (λ x. let a = eq-eqb u p.1 x.0 in let b = eq-eqb c p.0 x.1 in or_right (eqb u p.0 && eqb c p.1) (eqb u p.1 && eqb c p.0) (rw (a, b) refl))
    h

-- a pair at u joins it to its other end
other_end : (n u w : ℕ) (p : ℕ × ℕ) → w < n → ((c : ℕ) → eqb w c ≡ true → joins p.0 p.1 (u, c) ≡ true)
    → pos 1 ≤ℤ sum_below (λ c. pos (cond (joins p.0 p.1 (u, c)) 1 0)) n
other_end n u w p l h =
    let le = sum_below-le (λ c. cond (eqb w c) (pos 1) (pos 0)) (λ c. pos (cond (joins p.0 p.1 (u, c)) 1 0)) n (λ c k. ⊎_elim
    (λ e. let a : cond (eqb w c) (pos 1) (pos 0) ≡ pos 1 = cond-true _ _ _ e in let b : ◌≡◌ {A = ℕ} (cond (joins p.0 p.1 (u, c)) 1 0) 1 = cond-true _ _ _ (h c e) in omega (arith, ints))
    (λ e. let a : cond (eqb w c) (pos 1) (pos 0) ≡ pos 0 = cond-false _ _ _ e in omega (arith, ints))
    (cases_Bool (eqb w c))) in
    let one = sum_below-at (λ c. pos 1) w n l in
    omega (arith, ints)

-- of the cities below n, those that one of the pairs joins to u
ends_le : (n u : ℕ) (p : ℕ × ℕ) → p.0 < p.1 → p.1 < n → pos (cond (eqb p.0 u || eqb p.1 u) 1 0) ≤ℤ sum_below (λ c. pos (cond (joins p.0 p.1 (u, c)) 1 0)) n
ends_le n u p l m = ⊎_elim
    (λ e. let f = eqb-true p.0 u e in let add = other_end n u p.1 p m (λ c k. joins_from u c p (inl (sym f, sym (eqb-true p.1 c k)))) in let o = one_most' (eqb p.0 u || eqb p.1 u) in omega (arith, ints))
    (λ e. ⊎_elim
    (λ g. let f = eqb-true p.1 u g in let add = other_end n u p.0 p (omega arith) (λ c k. joins_from u c p (inr (sym f, sym (eqb-true p.0 c k)))) in let o = one_most' (eqb p.0 u || eqb p.1 u) in omega (arith, ints))
    (λ g. let z : ◌≡◌ {A = ℕ} (cond (eqb p.0 u || eqb p.1 u) 1 0) 0 = cond-false _ _ _ (or_from _ _ e g) in
    let nil = sum_below-zero n in
    let le = sum_below-le (λ c. pos 0) (λ c. pos (cond (joins p.0 p.1 (u, c)) 1 0)) n (λ c k. omega (arith, ints)) in omega (arith, ints))
    (cases_Bool (eqb p.1 u)))
    (cases_Bool (eqb p.0 u))

pairs_le : (n u : ℕ) (ps : List (ℕ × ℕ)) → AreBelow n ps → pos (pairs_at ps u) ≤ℤ sum_below (λ c. pos (joined ps (u, c))) n
pairs_le n u [] al = let z = sum_below-zero n in omega (arith, ints)
pairs_le n u (p ∷ ps) al =
    let ih = pairs_le n u ps al.1 in
    let one = ends_le n u p al.0.0 al.0.1 in
    let add = sum_below-add (λ c. pos (cond (joins p.0 p.1 (u, c)) 1 0)) (λ c. pos (joined ps (u, c))) n in
    let same = sum_below-same (λ c. pos (joined (p ∷ ps) (u, c))) (λ c. pos (cond (joins p.0 p.1 (u, c)) 1 0) +ℤ pos (joined ps (u, c))) n (λ c l. omega (arith, ints)) in
    omega (arith, ints)

-- no pair joins a city to itself
no_loop : (n u : ℕ) (ps : List (ℕ × ℕ)) → AreBelow n ps → joined ps (u, u) ≡ 0
no_loop n u [] al = refl
no_loop n u (p ∷ ps) al =
    let ih = no_loop n u ps al.1 in
    ⊎_elim
    (λ j. ⊎_elim (λ x. let a = x.0 in let b = x.1 in let l = al.0.0 in absurd (omega arith)) (λ x. let a = x.0 in let b = x.1 in let l = al.0.0 in absurd (omega arith)) (joins_is u u p.0 p.1 j))
    (λ j. let z : ◌≡◌ {A = ℕ} (cond (joins p.0 p.1 (u, u)) 1 0) 0 = cond-false _ _ _ j in omega arith)
    (cases_Bool (joins p.0 p.1 (u, u)))

-- a city is joined to each other city once at most, and to itself not at all
joined_le : (n u c : ℕ) (ps : List (ℕ × ℕ)) → AreBelow n ps → AreRisingPairs ps → (pos (joined ps (u, c)) +ℤ cond (eqb u c) (pos 1) (pos 0)) ≤ℤ pos 1
joined_le n u c ps al r = ⊎_elim
    (λ e. let f : u ≡ c = eqb-true u c e in
    let z : joined ps (u, c) ≡ 0 = subst (λ k. joined ps (u, k) ≡ 0) f (no_loop n u ps al) in
    let o : cond (eqb u c) (pos 1) (pos 0) ≡ pos 1 = cond-true _ _ _ e in omega (arith, ints))
    (λ e. let one = one_joins n ps (u, c) al r in let o : cond (eqb u c) (pos 1) (pos 0) ≡ pos 0 = cond-false _ _ _ e in omega (arith, ints))
    (cases_Bool (eqb u c))

-- an end below n has n - 1 pairs at most, another city none
none_at : (n u : ℕ) (ps : List (ℕ × ℕ)) → AreBelow n ps → n ≤ u → pairs_at ps u ≡ 0
none_at n u [] al l = refl
none_at n u (p ∷ ps) al l =
    let ih = none_at n u ps al.1 l in
    let a = al.0.0 in let b = al.0.1 in
    let z : ◌≡◌ {A = ℕ} (cond (eqb p.0 u || eqb p.1 u) 1 0) 0 = cond-false _ _ _ (or_from _ _ (ne_eqb p.0 u (λ e. omega arith)) (ne_eqb p.1 u (λ e. omega arith))) in
    omega arith

pairs_few : (n u : ℕ) (ps : List (ℕ × ℕ)) → 1 ≤ n → AreBelow n ps → AreRisingPairs ps → pairs_at ps u + 1 ≤ n
pairs_few n u ps some al r = ⊎_elim
    (λ l. let all = pairs_le n u ps al in
    let le = sum_below-le (λ c. pos (joined ps (u, c)) +ℤ cond (eqb u c) (pos 1) (pos 0)) (λ c. pos 1) n (λ c k. joined_le n u c ps al r) in
    let add = sum_below-add (λ c. pos (joined ps (u, c))) (λ c. cond (eqb u c) (pos 1) (pos 0)) n in
    let one = sum_below-at (λ c. pos 1) u n l in
    let most = one_at_most n in
    omega (arith, ints))
    (λ l. let z = none_at n u ps al l in omega arith)
    (cases_lt u n)

one_or : (x y : Bool) → ◌≡◌ {A = ℕ} (cond (x || (y || false)) 1 0) (cond (x || y) 1 0)
one_or true y = refl
one_or false true = refl
one_or false false = refl

-- a pair that crosses two cities has one of them
coefficient_pairs : (ps : List (ℕ × ℕ)) (u v : ℕ) → coefficient (map pair_set ps) u v ≤ pairs_at ps u + pairs_at ps v
coefficient_pairs [] u v = omega arith
coefficient_pairs (p ∷ ps) u v =
    let ih = coefficient_pairs ps u v in
    let o = crossed_by (has (pair_set p) u) (has (pair_set p) v) in
    let a : ◌≡◌ {A = ℕ} (cond (has (pair_set p) u) 1 0) (cond (eqb p.0 u || eqb p.1 u) 1 0) = one_or (eqb p.0 u) (eqb p.1 u) in
    let b : ◌≡◌ {A = ℕ} (cond (has (pair_set p) v) 1 0) (cond (eqb p.0 v || eqb p.1 v) 1 0) = one_or (eqb p.0 v) (eqb p.1 v) in
    omega arith

pub cuts_are_small : CutsAreSmall
cuts_are_small n (subtour m s) k = record { right = omega arith; crossed = λ u v. let o = one_most (has s u) (has s v) in omega arith }
cuts_are_small n (comb m h ts) k = record {
  right = (let f = few_teeth n h ts k.1 in omega arith);
  crossed = λ u v.
      let o = one_most (has h u) (has h v) in
      let c = coefficient_le ts u v in
      let a = one_holds ts u k.1.disjoint in
      let b = one_holds ts v k.1.disjoint in
      omega arith;
}
cuts_are_small n (odd m h ps) k = record {
  right = (let f = k.1.few in omega arith);
  crossed = λ u v.
      let o = one_most (has h u) (has h v) in
      let some = k.1.proper.some in
      let not_all = k.1.proper.not_all in
      let c = coefficient_pairs ps u v in
      let a = pairs_few n u ps (omega arith) k.1.below k.1.rising in
      let b = pairs_few n v ps (omega arith) k.1.below k.1.rising in
      omega arith;
}
