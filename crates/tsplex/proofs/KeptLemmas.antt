use Rattle.std.proofs.Common.{◌≡◌, ℕ, zero, suc, ◌+◌, ◌*◌, ◌%◌, ◌^◌, ◌<◌, ◌≤◌, min, ◌⊎◌, inl, inr, refl, sym, ap, ◌∙◌, subst, arith, lit<, add-one}
use Rattle.std.proofs.Math.Nat.{pow-suc, pow-le-pow_right, one-le-pow, mul-le-mul_right, zero-mul}
use Rattle.tsplex.specs.Digits.{Keeps}

pub ten_pow : (i j : ℕ) → i ≤ j → 10 ^ i ≤ 10 ^ j
ten_pow i j h = pow-le-pow_right (lit< tt) h

pub ten_more : (z : ℕ) → 10 ^ (z + 1) ≡ 10 ^ z * 10
ten_more z = rw add-one (pow-suc 10 z)

pub ten_pos : (z : ℕ) → 1 ≤ 10 ^ z
ten_pos z = one-le-pow z 10 (lit< tt)

shifted : (a p : ℕ) → a * p * 10 ≡ a * (p * 10)
shifted a p = omega arith

pub push_zero : (kept z v d : ℕ) → Keeps kept z v → d ≡ 0 → Keeps kept (z + 1) (v * 10 + d)
push_zero kept z v d k e = record {
  front = k.front;
  value = rw (e, ten_more z) (omega (arith, k.value, shifted k.front (10 ^ z)));
  capped = k.capped;
  last = k.last;
}

-- a value that does not end in 0 is its own front
ended : (v d : ℕ) → 0 < d → d < 10 → (v * 10 + d) % 10 ≡ 0 → v * 10 + d ≡ 0
ended v d p h e = absurd (omega arith)

by_itself : (f v d : ℕ) → 0 < d → d < 10 → f ≡ min (v * 10 + d) (2 ^ 32) → Keeps f 0 (v * 10 + d)
by_itself f v d p h e = record { front = v * 10 + d; value = omega arith; capped = e; last = ended v d p h }

pub push_first : (kept z v d : ℕ) → Keeps kept z v → kept ≡ 0 → 0 < d → d < 10 → Keeps d 0 (v * 10 + d)
push_first kept z v d k e p h =
    let none : k.front ≡ 0 = omega (arith, k.capped) in
    let nothing : v ≡ 0 = k.value ∙ ap (λ n. n * 10 ^ z) none ∙ zero-mul (10 ^ z) in
    by_itself d v d p h (omega arith)

far_enough : (a p : ℕ) → 0 < a → 10 ^ 9 ≤ p → 10 ^ 9 ≤ a * p
far_enough zero p h l = absurd (omega arith)
far_enough (suc a) p h l = omega arith

pub push_far : (kept z v d : ℕ) → Keeps kept z v → 0 < kept → 9 ≤ z → 0 < d → d < 10 → Keeps (2 ^ 32) 0 (v * 10 + d)
push_far kept z v d k some l p h =
    let there : 0 < k.front = omega (arith, k.capped) in
    let much : 10 ^ 9 ≤ v = subst (λ n. 10 ^ 9 ≤ n) (sym k.value) (far_enough k.front (10 ^ z) there (ten_pow 9 z l)) in
    by_itself (2 ^ 32) v d p h (omega arith)

capped_mul : (a p d c : ℕ) → 1 ≤ p → min (min a c * p + d) c ≡ min (a * p + d) c
capped_mul a zero d c h = absurd (omega arith)
capped_mul a (suc p) d c h = capped_cases a p d c (cases a c)
  where
    cases : (a c : ℕ) → (a ≤ c) ⊎ (c ≤ a)
    cases a c = grind arith

    capped_cases : (a p d c : ℕ) → (a ≤ c) ⊎ (c ≤ a) → min (min a c * suc p + d) c ≡ min (a * suc p + d) c
    capped_cases a p d c (inl l) = let e : min a c ≡ a = omega arith in rw e refl
    capped_cases a p d c (inr l) = let e : min a c ≡ c = omega arith in rw e (omega (arith, mul-le-mul_right p l))

pub push_near : (kept z v d f : ℕ) → Keeps kept z v → 0 < d → d < 10 → f ≡ min (kept * 10 ^ (z + 1) + d) (2 ^ 32) → Keeps f 0 (v * 10 + d)
push_near kept z v d f k p h e =
    let value : k.front * 10 ^ (z + 1) ≡ v * 10 = rw ten_more (omega (arith, k.value, shifted k.front (10 ^ z))) in
    by_itself f v d p h (e ∙ ap (λ n. min (n * 10 ^ (z + 1) + d) (2 ^ 32)) k.capped ∙ capped_mul k.front (10 ^ (z + 1)) d (2 ^ 32) (ten_pos (z + 1)) ∙ ap (λ n. min (n + d) (2 ^ 32)) value)
