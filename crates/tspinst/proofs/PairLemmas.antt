-- A pair more among rising ones.
use Rattle.std.proofs.Common.{◌≡◌, ◌≢◌, ℕ, ◌+◌, ◌<◌, ◌≤◌, ◌⊎◌, inl, inr, min, max, Bool, true, false, cond, ltb, ◌==◌, ◌||◌, ◌&&◌, List, [], ◌∷◌, refl, sym, arith}
use Rattle.std.specs.List.{AllByRecursion}
use Rattle.std.proofs.lemmas.Bool.{false≢true}
use Rattle.std.proofs.lemmas.Bool.Decides.{nat_tests}
use Rattle.tspdef.specs.Tours.{has_step, joins}
use Rattle.tspdef.specs.Fixed.{pairs_at, IsPairBefore, PairsRise, AreRisingPairs}
use Rattle.tspinst.specs.Fixings.{pair_of, is_pair_before, with_pair, pairs_in}

-- what holds of the pair and of each other holds of all
with_case : (P : ℕ × ℕ → Type 0) (p q : ℕ × ℕ) (qs : List (ℕ × ℕ)) (b : Bool) → P p → AllByRecursion P (q ∷ qs) → AllByRecursion P (with_pair p qs) → AllByRecursion P (cond b (p ∷ q ∷ qs) (q ∷ with_pair p qs))
with_case P p q qs true h all r = (h, all)
with_case P p q qs false h all r = (all.0, r)

pub all_with : (P : ℕ × ℕ → Type 0) (p : ℕ × ℕ) (ps : List (ℕ × ℕ)) → P p → AllByRecursion P ps → AllByRecursion P (with_pair p ps)
unfolding with_pair
all_with P p [] h all = (h, tt)
all_with P p (q ∷ qs) h all = with_case P p q qs (is_pair_before p q) h all (all_with P p qs h all.1)

without_case : (P : ℕ × ℕ → Type 0) (p q : ℕ × ℕ) (qs : List (ℕ × ℕ)) (b : Bool) → (AllByRecursion P (with_pair p qs) → P p × AllByRecursion P qs) → AllByRecursion P (cond b (p ∷ q ∷ qs) (q ∷ with_pair p qs)) → P p × AllByRecursion P (q ∷ qs)
without_case P p q qs true r h = (h.0, h.1)
without_case P p q qs false r h = let g = r h.1 in (g.0, (h.0, g.1))

pub all_without : (P : ℕ × ℕ → Type 0) (p : ℕ × ℕ) (ps : List (ℕ × ℕ)) → AllByRecursion P (with_pair p ps) → P p × AllByRecursion P ps
unfolding with_pair
all_without P p [] all = (all.0, tt)
all_without P p (q ∷ qs) all = without_case P p q qs (is_pair_before p q) (λ h. all_without P p qs h) all

pub pairs_at_with : (p : ℕ × ℕ) (ps : List (ℕ × ℕ)) (c : ℕ) → pairs_at (with_pair p ps) c ≡ cond ((p.0 == c) || (p.1 == c)) 1 0 + pairs_at ps c
unfolding with_pair
pairs_at_with p [] c = refl
pairs_at_with p (q ∷ qs) c = choose (is_pair_before p q) (pairs_at_with p qs c)
  where
    choose : (b : Bool) → pairs_at (with_pair p qs) c ≡ cond ((p.0 == c) || (p.1 == c)) 1 0 + pairs_at qs c → pairs_at (cond b (p ∷ q ∷ qs) (q ∷ with_pair p qs)) c ≡ cond ((p.0 == c) || (p.1 == c)) 1 0 + pairs_at (q ∷ qs) c
    choose true h = refl
    choose false h = omega arith

pub pairs_in_with : (s : ℕ → Bool) (p : ℕ × ℕ) (ps : List (ℕ × ℕ)) → pairs_in s (with_pair p ps) ≡ cond (s p.0) 1 0 + pairs_in s ps
unfolding with_pair
pairs_in_with s p [] = refl
pairs_in_with s p (q ∷ qs) = choose (is_pair_before p q) (pairs_in_with s p qs)
  where
    choose : (b : Bool) → pairs_in s (with_pair p qs) ≡ cond (s p.0) 1 0 + pairs_in s qs → pairs_in s (cond b (p ∷ q ∷ qs) (q ∷ with_pair p qs)) ≡ cond (s p.0) 1 0 + pairs_in s (q ∷ qs)
    choose true h = refl
    choose false h = omega arith

swapped : (a b c : Bool) → (b || (a || c)) ≡ (a || (b || c))
swapped true true c = refl
swapped true false c = refl
swapped false true c = refl
swapped false false c = refl

pub has_step_with : (p : ℕ × ℕ) (ps : List (ℕ × ℕ)) (u v : ℕ) → has_step (with_pair p ps) u v ≡ (joins u v p || has_step ps u v)
unfolding with_pair
has_step_with p [] u v = refl
has_step_with p (q ∷ qs) u v = choose (is_pair_before p q) (has_step_with p qs u v)
  where
    choose : (b : Bool) → has_step (with_pair p qs) u v ≡ (joins u v p || has_step qs u v) → has_step (cond b (p ∷ q ∷ qs) (q ∷ with_pair p qs)) u v ≡ (joins u v p || (joins u v q || has_step qs u v))
    choose true h = refl
    choose false h = rw h (swapped (joins u v p) (joins u v q) (has_step qs u v))

-- ---- rising

before_told : (p q : ℕ × ℕ) → is_pair_before p q ≡ true → IsPairBefore p q
before_told (a, b) (c, d) e = grind (arith, nat_tests)

behind_told : (p q : ℕ × ℕ) → is_pair_before p q ≡ false → joins p.0 p.1 q ≡ false → IsPairBefore q p
behind_told (a, b) (c, d) e off = grind (arith, nat_tests)

neither : (a b : Bool) → (a || b) ≡ false → (a ≡ false) × (b ≡ false)
neither true b e = absurd (false≢true (sym e))
neither false b e = (refl, e)

rise_case : (a p q : ℕ × ℕ) (qs : List (ℕ × ℕ)) (b : Bool) → is_pair_before p q ≡ b → IsPairBefore a p → PairsRise a (q ∷ qs) → has_step (q ∷ qs) p.0 p.1 ≡ false
    → (IsPairBefore q p → has_step qs p.0 p.1 ≡ false → PairsRise q (with_pair p qs)) → PairsRise a (cond b (p ∷ q ∷ qs) (q ∷ with_pair p qs))
rise_case a p q qs true e h rise off r = (h, (before_told p q e, rise.1))
rise_case a p q qs false e h rise off r = let n = neither (joins p.0 p.1 q) (has_step qs p.0 p.1) off in (rise.0, r (behind_told p q e n.0) n.1)

rise_behind : (a p : ℕ × ℕ) (qs : List (ℕ × ℕ)) → IsPairBefore a p → PairsRise a qs → has_step qs p.0 p.1 ≡ false → PairsRise a (with_pair p qs)
unfolding with_pair
rise_behind a p [] h rise off = (h, tt)
rise_behind a p (q ∷ qs) h rise off = rise_case a p q qs (is_pair_before p q) refl h rise off (λ k n. rise_behind q p qs k rise.1 n)

pub rising_with : (p : ℕ × ℕ) (ps : List (ℕ × ℕ)) → AreRisingPairs ps → has_step ps p.0 p.1 ≡ false → AreRisingPairs (with_pair p ps)
unfolding with_pair
rising_with p [] rise off = tt
rising_with p (q ∷ qs) rise off = choose (is_pair_before p q) refl
  where
    choose : (b : Bool) → is_pair_before p q ≡ b → AreRisingPairs (cond b (p ∷ q ∷ qs) (q ∷ with_pair p qs))
    choose true e = (before_told p q e, rise)
    choose false e = let n = neither (joins p.0 p.1 q) (has_step qs p.0 p.1) off in rise_behind q p qs (behind_told p q e n.0) rise n.1
