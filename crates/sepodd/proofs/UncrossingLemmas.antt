-- An odd set that crosses an even least one can be changed for an odd one that does not and weighs no more (Padberg and Rao 1982);
-- and an odd union of groups has an odd group.
use Rattle.std.proofs.Common.{◌≡◌, ℕ, zero, suc, ◌+◌, ◌<◌, ◌≤◌, Bool, true, false, not, ◌&&◌, ◌||◌, ◌==◌, List, refl, sym, ap, ◌∙◌, subst, arith, ⊎_elim, nat_lt, ◌⊎◌, inl, inr}
use Rattle.std.specs.List.{AllByRecursion}
use Rattle.std.proofs.lemmas.Bool.{cases_Bool, cases_eq, cases_lt, false≢true, lt-ltb, le-ltb, eq-eqb, ne_eqb}
use Rattle.cyc.specs.declared.frac.Entry.{Entry}
use Rattle.cyc.specs.Frac.{IsEntry}
use Rattle.sepodd.specs.Folding.{differ, is_odd, folded_entries, folded_crossing}
use Rattle.sepodd.proofs.ParityLemmas.{differ_none, odd_same, odd_sum, odd_none, odd_not, odd_meet_join, odd_parts}
use Rattle.sepodd.proofs.SubmodularLemmas.{crossing_meet_join, crossing_not}

differ_true : (a b : Bool) → differ a b ≡ true → a ≡ false → b ≡ true
differ_true true b h f = absurd (false≢true (sym f))
differ_true false b h f = h

less_by : (meet join least whole : ℕ) → meet + join ≤ least + whole → least ≤ join → meet ≤ whole
less_by meet join least whole s l = omega arith

less_by_other : (meet join least whole : ℕ) → meet + join ≤ least + whole → least ≤ meet → join ≤ whole
less_by_other meet join least whole s l = omega arith

not_true : (a : Bool) → a ≡ true → not a ≡ false
not_true true h = refl
not_true false h = absurd (false≢true h)

not_false : (a : Bool) → a ≡ false → not a ≡ true
not_false true h = absurd (false≢true (sym h))
not_false false h = refl

and_at : (a b : Bool) → a ≡ true → b ≡ true → (a && b) ≡ true
and_at true b h k = k
and_at false b h k = absurd (false≢true h)

and_off : (a b : Bool) → a ≡ false → (a && b) ≡ false
and_off true b h = absurd (false≢true (sym h))
and_off false b h = refl

or_on : (a b : Bool) → a ≡ true → (a || b) ≡ true
or_on true b h = refl
or_on false b h = absurd (false≢true h)

or_off : (a b : Bool) → a ≡ false → b ≡ false → (a || b) ≡ false
or_off true b h k = absurd (false≢true (sym h))
or_off false b h k = k

-- the sets are unions of groups, each city's group by its number
module _ (n : ℕ) (es : List Entry) (number : ℕ → ℕ) (all : AllByRecursion (IsEntry n) es) where
  abbrev pub odd_union : (ℕ → Bool) → Bool
  odd_union p = is_odd es (λ k. p (number k))

  abbrev pub weight_union : (ℕ → Bool) → ℕ
  weight_union p = folded_crossing es (λ k. p (number k))

  -- an odd union of weight at most w that does not part the side, or not the rest
  pub record IsUncrossed (side : ℕ → Bool) (s t : ℕ) (w : ℕ) : Type 0 where
    pub union : ℕ → Bool
    pub is_odd : odd_union union ≡ true
    pub no_more : weight_union union ≤ w
    pub whole : ((g : ℕ) → side g ≡ true → union g ≡ union s) ⊎ ((g : ℕ) → side g ≡ false → union g ≡ union t)

  pub weight_not : (p : ℕ → Bool) → weight_union (λ g. not (p g)) ≡ weight_union p
  weight_not p = crossing_not (folded_entries es) (λ k. p (number k))

  module _ (side : ℕ → Bool) (s t : ℕ) (inside : side s ≡ true) (outside : side t ≡ false) (even : odd_union side ≡ false)
      (least : (r : ℕ → Bool) → r s ≡ true → r t ≡ false → weight_union side ≤ weight_union r) where
    both_odd : (p : ℕ → Bool) → odd_union p ≡ true → differ (odd_union (λ g. side g && p g)) (odd_union (λ g. side g || p g)) ≡ true
    both_odd p o = odd_meet_join n es (λ k. side (number k)) (λ k. p (number k)) all ∙ ap (λ z. differ z (odd_union p)) even ∙ o

    -- where the meet is even
    join_of : (p : ℕ → Bool) (w : ℕ) → p s ≡ true → odd_union p ≡ true → odd_union (λ g. side g && p g) ≡ false → weight_union p ≤ w → IsUncrossed side s t w
    join_of p w at o meet l =
        let sum = crossing_meet_join (folded_entries es) (λ k. side (number k)) (λ k. p (number k)) in
        let more = least (λ g. side g && p g) (and_at (side s) (p s) inside at) (and_off (side t) (p t) outside) in
        let less = less_by_other (weight_union (λ g. side g && p g)) (weight_union (λ g. side g || p g)) (weight_union side) (weight_union p) sum more in
        record {
          union = λ g. side g || p g;
          is_odd = differ_true (odd_union (λ g. side g && p g)) (odd_union (λ g. side g || p g)) (both_odd p o) meet;
          no_more = omega (arith, less, l);
          whole = inl (λ g h. or_on (side g) (p g) h ∙ sym (or_on (side s) (p s) inside));
        }

    -- where the meet is odd
    meet_of : (p : ℕ → Bool) (w : ℕ) → p t ≡ false → odd_union (λ g. side g && p g) ≡ true → weight_union p ≤ w → IsUncrossed side s t w
    meet_of p w off meet l =
        let sum = crossing_meet_join (folded_entries es) (λ k. side (number k)) (λ k. p (number k)) in
        let more = least (λ g. side g || p g) (or_on (side s) (p s) inside) (or_off (side t) (p t) outside off) in
        let less = less_by (weight_union (λ g. side g && p g)) (weight_union (λ g. side g || p g)) (weight_union side) (weight_union p) sum more in
        record {
          union = λ g. side g && p g;
          is_odd = meet;
          no_more = omega (arith, less, l);
          whole = inr (λ g h. and_off (side g) (p g) h ∙ sym (and_off (side t) (p t) outside));
        }

    without_t : (p : ℕ → Bool) (w : ℕ) → p t ≡ false → odd_union p ≡ true → weight_union p ≤ w → IsUncrossed side s t w
    without_t p w off o l = ⊎_elim
        (λ (meet : odd_union (λ g. side g && p g) ≡ true). meet_of p w off meet l)
        (λ (meet : odd_union (λ g. side g && p g) ≡ false). ⊎_elim
        (λ (at : p s ≡ true). join_of p w at o meet l)
        (λ (at : p s ≡ false).
        let parts = odd_parts n es (λ k. side (number k)) (λ k. p (number k)) all in
        let other : odd_union (λ g. side g && not (p g)) ≡ false = sym (ap (λ z. differ z (odd_union (λ g. side g && not (p g)))) meet) ∙ sym parts ∙ even in
        join_of (λ g. not (p g)) w (not_false (p s) at) (odd_not es (λ k. p (number k)) ∙ o) other (let e = weight_not p in omega (arith, e, l)))
        (cases_Bool (p s)))
        (cases_Bool (odd_union (λ g. side g && p g)))

    pub uncross : (p : ℕ → Bool) → odd_union p ≡ true → IsUncrossed side s t (weight_union p)
    uncross p o = ⊎_elim
        (λ (at : p t ≡ true). without_t (λ g. not (p g)) (weight_union p) (not_true (p t) at) (odd_not es (λ k. p (number k)) ∙ o) (let e = weight_not p in omega (arith, e)))
        (λ (at : p t ≡ false). without_t p (weight_union p) at o (omega arith))
        (cases_Bool (p t))

  -- ---- an odd union has an odd group

  pub record HasOddGroup (p : ℕ → Bool) : Type 0 where
    pub group : ℕ
    pub member : p group ≡ true
    pub is_odd : odd_union (λ g. g == group) ≡ true

  next_case : (p : ℕ → Bool) (m j : ℕ) → (nat_lt j (suc m) && p j) ≡ differ (nat_lt j m && p j) ((j == m) && p m)
  next_case p m j = ⊎_elim
      (λ (l : j < m).
      let a : nat_lt j (suc m) ≡ true = lt-ltb j (suc m) (omega arith) in
      let b : nat_lt j m ≡ true = lt-ltb j m l in
      let c : (j == m) ≡ false = ne_eqb j m (omega arith) in
      rw (a, b, c) (sym (differ_none (p j))))
      (λ (l : m ≤ j). ⊎_elim
      (λ (e : j ≡ m).
      let a : nat_lt m (suc m) ≡ true = lt-ltb m (suc m) (omega arith) in
      let b : nat_lt m m ≡ false = le-ltb m m (omega arith) in
      let c : (m == m) ≡ true = eq-eqb m m refl in
      subst (λ i. (nat_lt i (suc m) && p i) ≡ differ (nat_lt i m && p i) ((i == m) && p m)) (sym e) (rw (a, b, c) refl))
      (λ (ne : j ≡ m → ⊥).
      let a : nat_lt j (suc m) ≡ false = le-ltb j (suc m) (omega arith) in
      let b : nat_lt j m ≡ false = le-ltb j m l in
      let c : (j == m) ≡ false = ne_eqb j m ne in
      rw (a, b, c) refl)
      (cases_eq j m))
      (cases_lt j m)

  below_case : (p : ℕ → Bool) (m : ℕ) → odd_union (λ g. nat_lt g m && p g) ≡ true → HasOddGroup p
  below_case p zero o = absurd (false≢true (sym (odd_none n es (λ k. nat_lt (number k) 0 && p (number k)) all (λ k h. let a : nat_lt (number k) 0 ≡ false = le-ltb (number k) 0 (omega arith) in rw a refl)) ∙ o))
  below_case p (suc m) o =
      let sum = odd_sum n es (λ k. nat_lt (number k) m && p (number k)) (λ k. (number k == m) && p m) (λ k. nat_lt (number k) (suc m) && p (number k)) all (λ k h. next_case p m (number k)) in
      ⊎_elim
      (λ (t : odd_union (λ g. nat_lt g m && p g) ≡ true). below_case p m t)
      (λ (f : odd_union (λ g. nat_lt g m && p g) ≡ false).
      let last : odd_union (λ g. (g == m) && p m) ≡ true = differ_true (odd_union (λ g. nat_lt g m && p g)) (odd_union (λ g. (g == m) && p m)) (sym sum ∙ o) f in
      ⊎_elim
      (λ (at : p m ≡ true). record { group = m; member = at; is_odd = odd_same n es (λ k. number k == m) (λ k. (number k == m) && p m) all (λ k h. with_true (number k == m) (p m) at) ∙ last })
      (λ (at : p m ≡ false). absurd (false≢true (sym (odd_none n es (λ k. (number k == m) && p m) all (λ k h. with_false (number k == m) (p m) at)) ∙ last)))
      (cases_Bool (p m)))
      (cases_Bool (odd_union (λ g. nat_lt g m && p g)))
    where
      with_true : (a b : Bool) → b ≡ true → a ≡ (a && b)
      with_true true b h = sym h
      with_true false b h = refl

      with_false : (a b : Bool) → b ≡ false → (a && b) ≡ false
      with_false true b h = h
      with_false false b h = refl

  pub odd_group : (p : ℕ → Bool) → ((k : ℕ) → k < n → number k < n) → odd_union p ≡ true → HasOddGroup p
  odd_group p below o = below_case p n (odd_same n es (λ k. nat_lt (number k) n && p (number k)) (λ k. p (number k)) all
      (λ k h. let a : nat_lt (number k) n ≡ true = lt-ltb (number k) n (below k h) in rw a refl) ∙ o)

  -- where no two groups are odd, no union is
  pub none_odd : (p : ℕ → Bool) → ((k : ℕ) → k < n → number k < n) → ((g h : ℕ) → odd_union (λ i. i == g) ≡ true → odd_union (λ i. i == h) ≡ true → g ≡ h) → odd_union p ≡ true → ⊥
  none_odd p below alone o =
      let a = odd_group p below o in
      let b = odd_group (λ g. not (p g)) below (odd_not es (λ k. p (number k)) ∙ o) in
      let e = alone a.group b.group a.is_odd b.is_odd in
      let z : not (p a.group) ≡ true = subst (λ g. not (p g) ≡ true) (sym e) b.member in
      false≢true (sym (not_true (p a.group) a.member) ∙ z)
