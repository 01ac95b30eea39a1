-- The least number that passes a test, and the roots that are such numbers.
use Rattle.std.proofs.Common.{◌≡◌, ℕ, zero, suc, ◌*◌, ◌<◌, ◌≤◌, ◌^◌, ◌⊎◌, inl, inr, Bool, true, false, cond, sym, ap, ◌∙◌, arith}
use Rattle.std.proofs.lemmas.Bool.Decides.{nat_tests}
use Rattle.std.proofs.lemmas.Nat.{mul-le}
use Rattle.tspdef.specs.Distances.{Rule, euclidean, rounded_up, pseudo_euclidean, manhattan, maximum, is_enough, least, root, IsLeast}

cond_true : (b : Bool) (x y : ℕ) → b ≡ true → cond b x y ≡ x
cond_true b x y e = rw e

cond_false : (b : Bool) (x y : ℕ) → b ≡ false → cond b x y ≡ y
cond_false b x y e = rw e

last_or_before : (k n : ℕ) → k ≤ suc n → (k ≤ n) ⊎ (k ≡ suc n)
last_or_before k n h = grind (arith, nat_tests)

choice_le : (b : Bool) (k n : ℕ) → k ≤ n → cond b k (suc n) ≤ suc n
choice_le true k n h = omega arith
choice_le false k n h = omega arith

least_le : (p : ℕ → Bool) (n : ℕ) → least p n ≤ n
unfolding least
least_le p zero = omega arith
least_le p (suc n) = choice_le (p (least p n)) (least p n) n (least_le p n)

-- a number that passes, with none before it that does, is the least
least_is : (p : ℕ → Bool) (n k : ℕ) → k ≤ n → IsLeast p k → least p n ≡ k
unfolding least
least_is p zero k within h = omega arith
least_is p (suc n) k within h =
    elim (last_or_before k n within) [
      | inl before ↦
          let e = least_is p n k before h in
          cond_true (p (least p n)) (least p n) (suc n) (ap p e ∙ h.is_enough) ∙ e
      | inr last ↦
          let less : least p n < k = omega (arith, least_le p n) in
          cond_false (p (least p n)) (least p n) (suc n) (h.none_below (least p n) less) ∙ sym last
    ]

square_grows : (j : ℕ) → j ≤ j * j
square_grows zero = omega arith
square_grows (suc j) = grind arith

-- s is enough for s
is_enough-self : (rule : Rule) (s : ℕ) → is_enough rule s s ≡ true
is_enough-self euclidean s = grind (arith, nat_tests)
is_enough-self rounded_up s = let h = square_grows s in grind (arith, nat_tests)
is_enough-self pseudo_euclidean s = let h = square_grows s in grind (arith, nat_tests)
is_enough-self manhattan s = grind (arith, nat_tests)
is_enough-self maximum s = grind (arith, nat_tests)

true≢false : (b : Bool) → b ≡ true → b ≡ false → ⊥
true≢false b e f = cc

within_self : (rule : Rule) (s k : ℕ) → IsLeast (is_enough rule s) k → (k ≤ s) ⊎ (s < k) → k ≤ s
within_self rule s k h (inl le) = le
within_self rule s k h (inr less) = absurd (true≢false (is_enough rule s s) (is_enough-self rule s) (h.none_below s less))

le_or_lt : (a b : ℕ) → (a ≤ b) ⊎ (b < a)
le_or_lt a b = grind (arith, nat_tests)

-- the least number that is enough is the root
pub root_is : (rule : Rule) (s k : ℕ) → IsLeast (is_enough rule s) k → k ≡ root rule s
root_is rule s k h = sym (least_is (is_enough rule s) s k (within_self rule s k h (le_or_lt k s)) h)

-- the root of a number up to 2^51 is below 2^31
pub root_small : (k s : ℕ) → k * k ≤ s → s ≤ 2 ^ 51 → k < 2 ^ 31
root_small k s square small = below (le_or_lt (2 ^ 31) k)
  where
    below : (2 ^ 31 ≤ k) ⊎ (k < 2 ^ 31) → k < 2 ^ 31
    below (inr less) = less
    below (inl more) = absurd (omega (arith, mul-le (2 ^ 31) (2 ^ 31) k k more more))
