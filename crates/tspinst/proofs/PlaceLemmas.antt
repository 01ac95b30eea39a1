-- Where a pair stands among rising ones.
use Rattle.std.proofs.Common.{◌≡◌, ℕ, zero, suc, ◌<◌, ◌≤◌, true, false, List, [], ◌∷◌, ◌++◌, length, take, drop, get_or, refl, ap, arith}
use Rattle.tspinst.specs.Fixings.{is_pair_before, with_pair}

pub placed : (p : ℕ × ℕ) (ps : List (ℕ × ℕ)) (k : ℕ) → ((i : ℕ) → i < k → is_pair_before p (get_or ps i (0, 0)) ≡ false) → k ≤ length ps → (k < length ps → is_pair_before p (get_or ps k (0, 0)) ≡ true) → take k ps ++ p ∷ drop k ps ≡ with_pair p ps
unfolding with_pair
placed p [] zero b l h = refl
placed p [] (suc k) b l h = absurd (omega arith)
placed p (q ∷ qs) zero b l h = rw (h (omega arith)) refl
placed p (q ∷ qs) (suc k) b l h = rw (b 0 (omega arith)) (ap (λ (r : List (ℕ × ℕ)). q ∷ r) (placed p qs k (λ i g. b (suc i) (omega arith)) (omega arith) (λ g. h (omega arith))))
