-- Sums over the first cities.
use Rattle.std.proofs.Common.{◌≡◌, ℕ, zero, suc, ◌+◌, ◌<◌, ◌≤◌, ◌⊎◌, inl, inr, Bool, true, false, cond, ◌==◌, refl, arith}
use Rattle.std.proofs.lemmas.Bool.Decides.{eqb_tells}
use Rattle.tspinst.specs.Fixings.{sum_to}

pub sum_same : (m : ℕ) (f g : ℕ → ℕ) → ((c : ℕ) → c < m → f c ≡ g c) → sum_to m f ≡ sum_to m g
sum_same zero f g h = refl
sum_same (suc m) f g h = let e = h m (omega arith) in let r = sum_same m f g (λ c l. h c (omega arith)) in omega arith

pub sum_plus : (m : ℕ) (f g : ℕ → ℕ) → sum_to m (λ c. f c + g c) ≡ sum_to m f + sum_to m g
sum_plus zero f g = refl
sum_plus (suc m) f g = let r = sum_plus m f g in omega arith

pub sum_least : (m : ℕ) (f g : ℕ → ℕ) → ((c : ℕ) → c < m → f c ≤ g c) → sum_to m f ≤ sum_to m g
sum_least zero f g h = omega arith
sum_least (suc m) f g h = let e = h m (omega arith) in let r = sum_least m f g (λ c l. h c (omega arith)) in omega arith

pub sum_none : (m : ℕ) → sum_to m (λ c. 0) ≡ 0
sum_none zero = refl
sum_none (suc m) = let r = sum_none m in omega arith

sum_beyond : (m a k : ℕ) → m ≤ a → sum_to m (λ c. cond (a == c) k 0) ≡ 0
sum_beyond zero a k l = refl
sum_beyond (suc m) a k l = elim (eqb_tells a m) [
  | inl at ↦ absurd (let e = at.1 in omega arith)
  | inr off ↦ let r = sum_beyond m a k (omega arith) in rw off.0 (omega arith)
]

-- a sum with one term
pub sum_one : (m a k : ℕ) → a < m → sum_to m (λ c. cond (a == c) k 0) ≡ k
sum_one zero a k l = absurd (omega arith)
sum_one (suc m) a k l = elim (eqb_tells a m) [
  | inl at ↦ let e = at.1 in let r = sum_beyond m a k (omega arith) in rw at.0 (omega arith)
  | inr off ↦ let e = off.1 in let r = sum_one m a k (grind arith) in rw off.0 (omega arith)
]
