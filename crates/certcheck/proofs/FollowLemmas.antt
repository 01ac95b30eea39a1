-- Numbers that rise.
use Rattle.std.proofs.Common.{◌≡◌, ℕ, zero, suc, ◌+◌, ◌-◌, ◌<◌, List, [], ◌∷◌, length, map, sym, ap, ◌∙◌, Some, arith}
use Rattle.std.specs.Prelude.{slice_get, nat_le, nat_lt}
use Rattle.std.proofs.lemmas.Bool.Decides.{nat_tests}
use Rattle.certdef.specs.Items.{is_before}
use Rattle.certdef.specs.Verdicts.{after, may_follow}
use Rattle.certtests.specs.Listed.{pair_to_one}

after_last : {X : Type 0} (xs : List (ℕ × X)) (k : ℕ) (v : ℕ × X) → suc k ≡ length xs → Some v ≡ slice_get xs k → after xs ≡ v.0 + 1
after_last [] k v l e = absurd (omega arith)
after_last (p ∷ []) zero v l e = let h : v ≡ p = cc in ap (λ r. r.0 + 1) (sym h)
after_last (p ∷ []) (suc k) v l e = absurd (omega arith)
after_last (p ∷ q ∷ qs) zero v l e = absurd (omega arith)
after_last (p ∷ q ∷ qs) (suc k) v l e = after_last (q ∷ qs) k v (omega arith) e

below_is_within : (a b : ℕ) → nat_lt a b ≡ nat_le (a + 1) b
below_is_within a b = grind (arith, nat_tests)

-- a number above the last may follow
pub follows : {X : Type 0} (xs : List (ℕ × X)) (v : ℕ × X) (next : ℕ) → 0 < length xs → Some v ≡ slice_get xs (length xs - 1) → nat_lt v.0 next ≡ nat_le (after xs) next
follows xs v next l e = below_is_within v.0 next ∙ ap (λ r. nat_le r next) (sym (after_last xs (length xs - 1) v (omega arith) e))

-- a pair may follow where it stands behind the last one
may_last : (xs : List (ℕ × ℕ)) (k : ℕ) (v q : ℕ × ℕ) → suc k ≡ length xs → Some v ≡ slice_get xs k → is_before (pair_to_one v) q ≡ may_follow (map pair_to_one xs) q
may_last [] k v q l e = absurd (omega arith)
may_last (p ∷ []) zero v q l e = let h : v ≡ p = cc in ap (λ r. is_before (pair_to_one r) q) h
may_last (p ∷ []) (suc k) v q l e = absurd (omega arith)
may_last (p ∷ r ∷ rs) zero v q l e = absurd (omega arith)
may_last (p ∷ r ∷ rs) (suc k) v q l e = may_last (r ∷ rs) k v q (omega arith) e

pub pair_follows : (xs : List (ℕ × ℕ)) (v q : ℕ × ℕ) → 0 < length xs → Some v ≡ slice_get xs (length xs - 1) → is_before (pair_to_one v) q ≡ may_follow (map pair_to_one xs) q
pair_follows xs v q l e = may_last xs (length xs - 1) v q (omega arith) e
