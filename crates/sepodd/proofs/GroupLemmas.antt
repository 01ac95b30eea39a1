-- Odd sets as unions of fewer groups: two groups that need not be parted, or all groups of an even set, become one.
use Rattle.std.proofs.Common.{◌≡◌, ℕ, ◌<◌, ◌≤◌, Bool, true, false, not, ◌==◌, List, refl, sym, ap, ◌∙◌, subst, arith, ⊎_elim, ◌⊎◌, inl, inr}
use Rattle.std.specs.List.{AllByRecursion}
use Rattle.std.proofs.lemmas.Bool.{cases_Bool, cases_eq, false≢true, cond-true, cond-false, eq-eqb, ne_eqb}
use Rattle.cyc.specs.declared.frac.Entry.{Entry}
use Rattle.cyc.specs.Frac.{IsEntry}
use Rattle.sepodd.specs.Folding.{is_odd, folded_entries, folded_crossing, joined}
use Rattle.sepodd.proofs.ParityLemmas.{odd_same, odd_none}
use Rattle.sepodd.proofs.SubmodularLemmas.{crossing_not, crossing_within, each_folded}
use Rattle.sepodd.proofs.UncrossingLemmas.{uncross}

module _ (n : ℕ) (es : List Entry) (all : AllByRecursion (IsEntry n) es) where
  -- equal unions of other groups
  pub weight_same : (p q : ℕ → Bool) → ((k : ℕ) → k < n → p k ≡ q k) → folded_crossing es p ≡ folded_crossing es q
  weight_same p q e = crossing_within n (folded_entries es) p q (each_folded n es all) e

  -- no odd union of groups weighs less
  abbrev pub IsLeastUnion : (ℕ → ℕ) → ℕ → Type 0
  IsLeastUnion number w = (p : ℕ → Bool) → is_odd es (λ k. p (number k)) ≡ true → w ≤ folded_crossing es (λ k. p (number k))

  -- a union of the new groups is one of the old
  pub least_through : (number now : ℕ → ℕ) (w : ℕ) → IsLeastUnion now w → (p : ℕ → Bool) → ((k : ℕ) → k < n → p (now k) ≡ p (number k)) → is_odd es (λ k. p (number k)) ≡ true
      → w ≤ folded_crossing es (λ k. p (number k))
  least_through number now w least p same o =
      subst (λ v. w ≤ v) (weight_same (λ k. p (now k)) (λ k. p (number k)) same) (least p (odd_same n es (λ k. p (now k)) (λ k. p (number k)) all same ∙ o))

  -- ---- two groups become one

  module _ (number now : ℕ → ℕ) (s t : ℕ) (each : (k : ℕ) → k < n → now k ≡ joined (λ g. g == t) s (number k)) where
    at_t : (k : ℕ) → k < n → number k ≡ t → now k ≡ s
    at_t k h e = each k h ∙ cond-true (number k == t) s (number k) (eq-eqb (number k) t e)

    off_t : (k : ℕ) → k < n → (number k ≡ t → ⊥) → now k ≡ number k
    off_t k h ne = each k h ∙ cond-false (number k == t) s (number k) (ne_eqb (number k) t ne)

    unparted : (p : ℕ → Bool) → p s ≡ p t → (k : ℕ) → k < n → p (now k) ≡ p (number k)
    unparted p e k h = ⊎_elim
        (λ (q : number k ≡ t). ap p (at_t k h q) ∙ e ∙ sym (ap p q))
        (λ (ne : number k ≡ t → ⊥). ap p (off_t k h ne))
        (cases_eq (number k) t)

    -- where no set that parts the two is better
    pub merged_least : (old new : ℕ) → new ≤ old → ((r : ℕ → Bool) → r s ≡ true → r t ≡ false → old ≤ folded_crossing es (λ k. r (number k))) → IsLeastUnion now new → IsLeastUnion number new
    merged_least old new less parted least p o = ⊎_elim
        (λ (a : p s ≡ true). ⊎_elim
        (λ (b : p t ≡ true). least_through number now new least p (unparted p (a ∙ sym b)) o)
        (λ (b : p t ≡ false). let z = parted p a b in omega (arith, z, less))
        (cases_Bool (p t)))
        (λ (a : p s ≡ false). ⊎_elim
        (λ (b : p t ≡ true).
        let z = parted (λ g. not (p g)) (ap not a) (ap not b) in
        let e : folded_crossing es (λ k. not (p (number k))) ≡ folded_crossing es (λ k. p (number k)) = crossing_not (folded_entries es) (λ k. p (number k)) in
        omega (arith, z, e, less))
        (λ (b : p t ≡ false). least_through number now new least p (unparted p (a ∙ sym b)) o)
        (cases_Bool (p t)))
        (cases_Bool (p s))

    pub merged_odd : (s ≡ t → ⊥) → (g : ℕ) → is_odd es (λ k. now k == g) ≡ true → (g ≡ t → ⊥) × ((g ≡ s) ⊎ (is_odd es (λ k. number k == g) ≡ true))
    merged_odd apart g o = (
      λ e. false≢true (sym (odd_none n es (λ k. now k == g) all (λ k h. ⊎_elim
          (λ (q : number k ≡ t). ne_eqb (now k) g (λ z. apart (sym (at_t k h q) ∙ z ∙ e)))
          (λ (ne : number k ≡ t → ⊥). ne_eqb (now k) g (λ z. ne (sym (off_t k h ne) ∙ z ∙ e)))
          (cases_eq (number k) t))) ∙ o),
      ⊎_elim
          (λ (e : g ≡ s). inl e)
          (λ (ne_s : g ≡ s → ⊥). ⊎_elim
          (λ (e : g ≡ t). inl (absurd (false≢true (sym (odd_none n es (λ k. now k == g) all (λ k h. ⊎_elim
          (λ (q : number k ≡ t). ne_eqb (now k) g (λ z. apart (sym (at_t k h q) ∙ z ∙ e)))
          (λ (ne : number k ≡ t → ⊥). ne_eqb (now k) g (λ z. ne (sym (off_t k h ne) ∙ z ∙ e)))
          (cases_eq (number k) t))) ∙ o))))
          (λ (ne_t : g ≡ t → ⊥). inr (odd_same n es (λ k. number k == g) (λ k. now k == g) all (λ k h. ⊎_elim
          (λ (q : number k ≡ t). ne_eqb (number k) g (λ z. ne_t (sym z ∙ q)) ∙ sym (ne_eqb (now k) g (λ z. ne_s (sym z ∙ at_t k h q))))
          (λ (ne : number k ≡ t → ⊥). ap (λ j. j == g) (sym (off_t k h ne)))
          (cases_eq (number k) t)) ∙ o))
          (cases_eq g t))
          (cases_eq g s),
    )

  -- ---- the groups of an even set become one

  module _ (number now : ℕ → ℕ) (kind : ℕ → Bool) (to : ℕ) (each : (k : ℕ) → k < n → now k ≡ joined kind to (number k)) where
    of_kind : (k : ℕ) → k < n → kind (number k) ≡ true → now k ≡ to
    of_kind k h e = each k h ∙ cond-true (kind (number k)) to (number k) e

    of_others : (k : ℕ) → k < n → kind (number k) ≡ false → now k ≡ number k
    of_others k h e = each k h ∙ cond-false (kind (number k)) to (number k) e

    -- a union that does not part the kind
    pub joined_whole : (p : ℕ → Bool) → ((g : ℕ) → kind g ≡ true → p g ≡ p to) → (k : ℕ) → k < n → p (now k) ≡ p (number k)
    joined_whole p whole k h = ⊎_elim
        (λ (q : kind (number k) ≡ true). ap p (of_kind k h q) ∙ sym (whole (number k) q))
        (λ (q : kind (number k) ≡ false). ap p (of_others k h q))
        (cases_Bool (kind (number k)))

    apart_by_kind : (a b : ℕ) → kind a ≡ true → kind b ≡ false → a ≡ b → ⊥
    apart_by_kind a b x y e = false≢true (sym y ∙ ap kind (sym e) ∙ x)

    pub joined_odd : kind to ≡ true → is_odd es (λ k. kind (number k)) ≡ false → (g : ℕ) → is_odd es (λ k. now k == g) ≡ true → (kind g ≡ false) × (is_odd es (λ k. number k == g) ≡ true)
    joined_odd home even g o = ⊎_elim
        (λ (y : kind g ≡ true). absurd (false≢true (sym (gone y) ∙ o)))
        (λ (y : kind g ≡ false). (
          y,
          odd_same n es (λ k. number k == g) (λ k. now k == g) all (λ k h. ⊎_elim
              (λ (q : kind (number k) ≡ true). ne_eqb (number k) g (apart_by_kind (number k) g q y) ∙ sym (ne_eqb (now k) g (λ z. apart_by_kind to g home y (sym (of_kind k h q) ∙ z))))
              (λ (q : kind (number k) ≡ false). ap (λ j. j == g) (sym (of_others k h q)))
              (cases_Bool (kind (number k)))) ∙ o,
        ))
        (cases_Bool (kind g))
      where
        gone : kind g ≡ true → is_odd es (λ k. now k == g) ≡ false
        gone y = ⊎_elim
            (λ (e : g ≡ to). odd_same n es (λ k. now k == g) (λ k. kind (number k)) all (λ k h. ⊎_elim
            (λ (q : kind (number k) ≡ true). eq-eqb (now k) g (of_kind k h q ∙ sym e) ∙ sym q)
            (λ (q : kind (number k) ≡ false). ne_eqb (now k) g (λ z. apart_by_kind g (number k) y q (sym z ∙ of_others k h q)) ∙ sym q)
            (cases_Bool (kind (number k)))) ∙ even)
            (λ (ne : g ≡ to → ⊥). odd_none n es (λ k. now k == g) all (λ k h. ⊎_elim
            (λ (q : kind (number k) ≡ true). ne_eqb (now k) g (λ z. ne (sym z ∙ of_kind k h q)))
            (λ (q : kind (number k) ≡ false). ne_eqb (now k) g (λ z. apart_by_kind g (number k) y q (sym z ∙ of_others k h q)))
            (cases_Bool (kind (number k)))))
            (cases_eq g to)

  -- what the two halves of an even least set find is the least of all
  pub split_least : (number inner outer : ℕ → ℕ) (side : ℕ → Bool) (s t first last : ℕ) → side s ≡ true → side t ≡ false → is_odd es (λ k. side (number k)) ≡ false
      → ((r : ℕ → Bool) → r s ≡ true → r t ≡ false → folded_crossing es (λ k. side (number k)) ≤ folded_crossing es (λ k. r (number k)))
      → ((k : ℕ) → k < n → inner k ≡ joined (λ g. not (side g)) t (number k)) → ((k : ℕ) → k < n → outer k ≡ joined side s (number k))
      → IsLeastUnion inner first → last ≤ first → IsLeastUnion outer last → IsLeastUnion number last
  split_least number inner outer side s t first last inside outside even least each_inner each_outer one less other p o =
      let u = uncross n es number all side s t inside outside even least p o in
      let q = u.union in
      let l = u.no_more in
      ⊎_elim
      (λ (w : (g : ℕ) → side g ≡ true → q g ≡ q s).
      let z = least_through number outer last other q (joined_whole number outer side s each_outer q w) u.is_odd in
      omega (arith, z, l))
      (λ (w : (g : ℕ) → side g ≡ false → q g ≡ q t).
      let z = least_through number inner first one q (joined_whole number inner (λ g. not (side g)) t each_inner q (λ g h. w g (from_not (side g) h))) u.is_odd in
      omega (arith, z, l, less))
      u.whole
    where
      from_not : (b : Bool) → not b ≡ true → b ≡ false
      from_not true h = sym h
      from_not false h = refl
