-- The pairs of a cut as they are listed, row by row.
use Rattle.std.proofs.Common.{◌≡◌, ℕ, ◌+◌, ◌<◌, ◌≤◌, Bool, true, false, ◌||◌, List, [], ◌∷◌, ◌++◌, refl, sym, ap, ◌∙◌, subst, arith, ⊎_elim, inl, inr}
use Rattle.std.specs.List.{AllByRecursion}
use Rattle.std.proofs.lemmas.Bool.{cases_eq, or_left, or_right, false≢true, cases_Bool}
use Rattle.std.proofs.lemmas.Bool.Decides.{nat_tests}
use Rattle.tspdef.specs.Tours.{joins, crosses, has_step}
use Rattle.tspdef.specs.Fixed.{IsPairBefore, PairsRise, AreRisingPairs}
use Rattle.sepodd.specs.Cuts.{ArePairsTo}

all_push : (P : ℕ × ℕ → Type 0) (ps : List (ℕ × ℕ)) (q : ℕ × ℕ) → AllByRecursion P ps → P q → AllByRecursion P (ps ++ q ∷ [])
all_push P [] q a h = (h, tt)
all_push P (p ∷ ps) q a h = (a.0, all_push P ps q a.1 h)

all_weaker : (P Q : ℕ × ℕ → Type 0) (ps : List (ℕ × ℕ)) → ((q : ℕ × ℕ) → P q → Q q) → AllByRecursion P ps → AllByRecursion Q ps
all_weaker P Q [] f a = tt
all_weaker P Q (p ∷ ps) f a = (f p a.0, all_weaker P Q ps f a.1)

rise_push : (f : ℕ × ℕ) (ps : List (ℕ × ℕ)) (q : ℕ × ℕ) → PairsRise f ps → IsPairBefore f q → AllByRecursion (λ p. IsPairBefore p q) ps → PairsRise f (ps ++ q ∷ [])
rise_push f [] q r b a = (b, tt)
rise_push f (p ∷ ps) q r b a = (r.0, rise_push p ps q r.1 a.0 a.1)

rising_push : (ps : List (ℕ × ℕ)) (q : ℕ × ℕ) → AreRisingPairs ps → AllByRecursion (λ p. IsPairBefore p q) ps → AreRisingPairs (ps ++ q ∷ [])
rising_push [] q r a = tt
rising_push (p ∷ ps) q r a = rise_push p ps q r a.0 a.1

step_more : (ps : List (ℕ × ℕ)) (q : ℕ × ℕ) (u v : ℕ) → has_step ps u v ≡ true → has_step (ps ++ q ∷ []) u v ≡ true
step_more [] q u v h = absurd (false≢true h)
step_more (p ∷ ps) q u v h = ⊎_elim
    (λ (t : joins u v p ≡ true). or_left (joins u v p) (has_step (ps ++ q ∷ []) u v) t)
    (λ (f : joins u v p ≡ false). or_right (joins u v p) (has_step (ps ++ q ∷ []) u v) (step_more ps q u v (sym (ap (λ b. b || has_step ps u v) f) ∙ h)))
    (cases_Bool (joins u v p))

joins_self : (u v : ℕ) → joins u v (u, v) ≡ true
joins_self u v = grind (arith, nat_tests)

step_last : (ps : List (ℕ × ℕ)) (u v : ℕ) → has_step (ps ++ (u, v) ∷ []) u v ≡ true
step_last [] u v = or_left (joins u v (u, v)) false (joins_self u v)
step_last (p ∷ ps) u v = or_right (joins u v p) (has_step (ps ++ (u, v) ∷ []) u v) (step_last ps u v)

module _ (n : ℕ) (p : ℕ → Bool) (chosen : ℕ → ℕ → Bool) where
  pub pairs_none : ArePairsTo n p chosen (0, 0) []
  pairs_none = record {
    below = tt;
    rising = tt;
    before = tt;
    crossed = tt;
    wanted = tt;
    all = λ a b l m q c w. absurd (⊎_elim (λ (z : a < 0). absurd (omega arith)) (λ z. let y = z.1 in absurd (omega arith)) q);
  }

  next_before : (u v : ℕ) (q : ℕ × ℕ) → IsPairBefore q (u, v) → IsPairBefore q (u, v + 1)
  next_before u v q b = ⊎_elim (λ (z : q.0 < u). inl z) (λ z. inr (z.0, (let y = z.1 in omega arith))) b

  -- a pair more
  pub pairs_push : (u v : ℕ) (ps : List (ℕ × ℕ)) → ArePairsTo n p chosen (u, v) ps → u < v → v < n → crosses p (u, v) ≡ true → chosen u v ≡ true
      → ArePairsTo n p chosen (u, v + 1) (ps ++ (u, v) ∷ [])
  pairs_push u v ps old l m c w = record {
    below = all_push (λ q. (q.0 < q.1) × (q.1 < n)) ps (u, v) old.below (l, m);
    rising = rising_push ps (u, v) old.rising old.before;
    before = all_push (λ q. IsPairBefore q (u, v + 1)) ps (u, v) (all_weaker (λ q. IsPairBefore q (u, v)) (λ q. IsPairBefore q (u, v + 1)) ps (next_before u v) old.before) (inr (refl, omega arith));
    crossed = all_push (λ q. crosses p q ≡ true) ps (u, v) old.crossed c;
    wanted = all_push (λ q. chosen q.0 q.1 ≡ true) ps (u, v) old.wanted w;
    all = λ a b l m q c w. ⊎_elim
        (λ (z : a < u). step_more ps (u, v) a b (old.all a b l m (inl z) c w))
        (λ z. ⊎_elim
        (λ (e : b ≡ v). subst (λ i. has_step (ps ++ (u, v) ∷ []) i b ≡ true) (sym z.0) (subst (λ j. has_step (ps ++ (u, v) ∷ []) u j ≡ true) (sym e) (step_last ps u v)))
        (λ (ne : b ≡ v → ⊥). step_more ps (u, v) a b (old.all a b l m (inr (z.0, (let y = z.1 in omega (arith, y, ne)))) c w))
        (cases_eq b v))
        q;
  }

  -- a pair that is none of them
  pub pairs_skip : (u v : ℕ) (ps : List (ℕ × ℕ)) → ArePairsTo n p chosen (u, v) ps → (crosses p (u, v) ≡ true → chosen u v ≡ true → ⊥) → ArePairsTo n p chosen (u, v + 1) ps
  pairs_skip u v ps old lacks = record {
    below = old.below;
    rising = old.rising;
    before = all_weaker (λ q. IsPairBefore q (u, v)) (λ q. IsPairBefore q (u, v + 1)) ps (next_before u v) old.before;
    crossed = old.crossed;
    wanted = old.wanted;
    all = λ a b l m q c w. ⊎_elim
        (λ (z : a < u). old.all a b l m (inl z) c w)
        (λ z. ⊎_elim
        (λ (e : b ≡ v). absurd (lacks
        (subst (λ i. crosses p (i, v) ≡ true) z.0 (subst (λ j. crosses p (a, j) ≡ true) e c))
        (subst (λ i. chosen i v ≡ true) z.0 (subst (λ j. chosen a j ≡ true) e w))))
        (λ (ne : b ≡ v → ⊥). old.all a b l m (inr (z.0, (let y = z.1 in omega (arith, y, ne)))) c w)
        (cases_eq b v))
        q;
  }

  -- the row of a city begins behind it
  pub pairs_begin : (u : ℕ) (ps : List (ℕ × ℕ)) → ArePairsTo n p chosen (u, 0) ps → ArePairsTo n p chosen (u, u + 1) ps
  pairs_begin u ps old = record {
    below = old.below;
    rising = old.rising;
    before = all_weaker (λ q. IsPairBefore q (u, 0)) (λ q. IsPairBefore q (u, u + 1)) ps (λ q b. ⊎_elim (λ (z : q.0 < u). inl z) (λ z. let y = z.1 in absurd (omega (arith, y))) b) old.before;
    crossed = old.crossed;
    wanted = old.wanted;
    all = λ a b l m q c w. ⊎_elim
        (λ (z : a < u). old.all a b l m (inl z) c w)
        (λ z. let y = z.1 in let x = z.0 in absurd (omega (arith, x, y, l)))
        q;
  }

  -- the row of a city ends with the last
  pub pairs_end : (u v : ℕ) (ps : List (ℕ × ℕ)) → n ≤ v → ArePairsTo n p chosen (u, v) ps → ArePairsTo n p chosen (u + 1, 0) ps
  pairs_end u v ps le old = record {
    below = old.below;
    rising = old.rising;
    before = all_weaker (λ q. IsPairBefore q (u, v)) (λ q. IsPairBefore q (u + 1, 0)) ps (λ q b. ⊎_elim (λ (z : q.0 < u). inl (omega arith)) (λ z. inl (let x = z.0 in omega (arith, x))) b) old.before;
    crossed = old.crossed;
    wanted = old.wanted;
    all = λ a b l m q c w. ⊎_elim
        (λ (z : a < u + 1). ⊎_elim
        (λ (e : a ≡ u). old.all a b l m (inr (e, omega (arith, m, le))) c w)
        (λ (ne : a ≡ u → ⊥). old.all a b l m (inl (omega (arith, z, ne))) c w)
        (cases_eq a u))
        (λ z. let y = z.1 in absurd (omega (arith, y)))
        q;
  }
