-- Codes of cities by the sets that hold them.
use Rattle.std.proofs.Common.{◌≡◌, ℕ, ◌+◌, ◌*◌, Bool, true, false, not, cond, List, [], ◌∷◌, refl, ap, sym, ◌∙◌, arith}
use Rattle.tspdef.specs.Sets.{has}
use Rattle.tspdef.specs.Cuts.{coefficient}
use Rattle.lpcheck.specs.Codes.{code}

record AreTwo (a b : ℕ) (x y : Bool) : Type 0 where
  pub fronts : a ≡ b
  pub digits : x ≡ y

parity : (a b : ℕ) → 2 * a + 1 ≡ 2 * b + 0 → ⊥
parity a b h = omega (arith, h)

digits_apart : (a b : ℕ) (x y : Bool) → 2 * a + cond x 1 0 ≡ 2 * b + cond y 1 0 → AreTwo a b x y
digits_apart a b true true h = record { fronts = omega (arith, h); digits = refl }
digits_apart a b false false h = record { fronts = omega (arith, h); digits = refl }
digits_apart a b true false h = absurd (parity a b h)
digits_apart a b false true h = absurd (parity b a (sym h))

fronts_same : (ss : List (List ℕ)) (a b u v : ℕ) → code a ss u ≡ code b ss v → a ≡ b
fronts_same [] a b u v h = h
fronts_same (s ∷ ss) a b u v h = (digits_apart a b (has s u) (has s v) (fronts_same ss (2 * a + cond (has s u) 1 0) (2 * b + cond (has s v) 1 0) u v h)).fronts

abbrev apart : Bool → Bool → ℕ
apart x y = cond (cond x (not y) y) 1 0

apart_same : (x : Bool) → apart x x ≡ 0
apart_same true = refl
apart_same false = refl

crossed_not : (x y : Bool) → x ≡ y → apart x y ≡ 0
crossed_not x y e = sym (ap (λ (b : Bool). apart x b) e) ∙ apart_same x

-- no set that two cities of one code are apart by
pub same_code : (ss : List (List ℕ)) (a b u v : ℕ) → code a ss u ≡ code b ss v → coefficient ss u v ≡ 0
same_code [] a b u v h = refl
same_code (s ∷ ss) a b u v h =
    let front : 2 * a + cond (has s u) 1 0 ≡ 2 * b + cond (has s v) 1 0 = fronts_same ss (2 * a + cond (has s u) 1 0) (2 * b + cond (has s v) 1 0) u v h in
    let both = digits_apart a b (has s u) (has s v) front in
    let rest = same_code ss (2 * a + cond (has s u) 1 0) (2 * b + cond (has s v) 1 0) u v h in
    let none = crossed_not (has s u) (has s v) both.digits in
    omega (arith, rest, none)
