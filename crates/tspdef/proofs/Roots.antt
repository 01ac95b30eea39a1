use Rattle.std.proofs.Common.{◌≡◌, ℕ, zero, suc, ◌*◌, ◌<◌, ◌≤◌, Bool, true, false, refl, sym, ◌∙◌, subst, arith, ⊎_elim}
use Rattle.std.proofs.lemmas.Bool.{cases_Bool, cases_lt, cond-true, cond-false}
use Rattle.std.proofs.lemmas.Bool.Decides.{nat_tests}
use Rattle.tspdef.specs.Distances.{Rule, euclidean, rounded_up, pseudo_euclidean, manhattan, maximum, is_enough, least}
use Rattle.tspdef.specs.Laws.{RootsAreLeast, DistancesGoByRules}

-- the least is n where it does not pass
least_at_end : (passes : ℕ → Bool) (n : ℕ) → passes (least passes n) ≡ false → least passes n ≡ n
unfolding least
least_at_end passes zero f = refl
least_at_end passes (suc n) f = ⊎_elim
    (λ t. let e : least passes (suc n) ≡ least passes n = cond-true _ _ _ t in let g = subst (λ k. passes k ≡ false) e f in cc)
    (λ u. cond-false _ _ _ u)
    (cases_Bool (passes (least passes n)))

-- nothing below the least passes
pub none_below : (passes : ℕ → Bool) (n j : ℕ) → j < least passes n → passes j ≡ false
unfolding least
none_below passes zero j h = absurd (omega arith)
none_below passes (suc n) j h = ⊎_elim
    (λ t. none_below passes n j (subst (λ k. j < k) (cond-true _ _ _ t) h))
    (λ f.
    let lt : j < suc n = subst (λ k. j < k) (cond-false _ _ _ f) h in
    let top = least_at_end passes n f in ⊎_elim
    (λ l. none_below passes n j (subst (λ k. j < k) (sym top) l))
    (λ g. let e : n ≡ j = omega arith in subst (λ k. passes k ≡ false) (top ∙ e) f)
    (cases_lt j n))
    (cases_Bool (passes (least passes n)))

-- where n passes, the least does
pub least_passes : (passes : ℕ → Bool) (n : ℕ) → passes n ≡ true → passes (least passes n) ≡ true
unfolding least
least_passes passes zero h = h
least_passes passes (suc n) h = ⊎_elim
    (λ t. subst (λ k. passes k ≡ true) (sym (cond-true _ _ _ t)) t)
    (λ f. subst (λ k. passes k ≡ true) (sym (cond-false _ _ _ f)) h)
    (cases_Bool (passes (least passes n)))

square_le : (s : ℕ) → s ≤ s * s
square_le zero = omega arith
square_le (suc s) = grind arith

self_is_enough : (rule : Rule) (s : ℕ) → is_enough rule s s ≡ true
self_is_enough euclidean s = let q = square_le s in grind (arith, nat_tests)
self_is_enough rounded_up s = let q = square_le s in grind (arith, nat_tests)
self_is_enough pseudo_euclidean s = let q = square_le s in grind (arith, nat_tests)
self_is_enough manhattan s = grind (arith, nat_tests)
self_is_enough maximum s = grind (arith, nat_tests)

pub roots_are_least : RootsAreLeast
roots_are_least rule s = record {
  is_enough = least_passes (is_enough rule s) s (self_is_enough rule s);
  none_below = λ j h. none_below (is_enough rule s) s j h;
}

pub distances_go_by_rules : DistancesGoByRules
distances_go_by_rules euclidean x y = roots_are_least euclidean _
distances_go_by_rules rounded_up x y = roots_are_least rounded_up _
distances_go_by_rules pseudo_euclidean x y = roots_are_least pseudo_euclidean _
distances_go_by_rules manhattan x y = refl
distances_go_by_rules maximum x y = refl
