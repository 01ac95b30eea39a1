-- the dual of a city, with its sign
use Rattle.std.proofs.Common.{◌≡◌, ℕ, suc, ◌^◌, ◌<◌, ◌≤◌, ℤ, pos, negsuc, true, false, List, [], ◌∷◌, ◌++◌, drop, get_or, decimal, w64, to_z, of_z, refl, sym, ap, subst, arith}
use Rattle.std.specs.Prelude.{nat_lt, nat_le, nat_abs}
use Rattle.std.specs.Fmt.{signed_decimal}
use Rattle.std.proofs.lemmas.Bool.{and_parts, ltb-true, leb-true}
use Rattle.std.proofs.lemmas.Bool.Decides.{nat_tests}
use Rattle.std.proofs.lemmas.Int.{ints}
use Rattle.std.proofs.lemmas.Fmt.{first_decimal}
use Rattle.certdef.specs.Items.{is_dual}
use Rattle.certline.specs.Spelling.{first_is, BeginsWith, Spells}

append_nil : {X : Type 0} (xs : List X) → xs ++ [] ≡ xs
append_nil [] = refl
append_nil (x ∷ xs) = ap (λ r. x ∷ r) (append_nil xs)

pub dual_bounds : (y : ℕ) → is_dual y ≡ true → (0 < y) × (y ≤ 2 ^ 62)
dual_bounds y e = let p = and_parts (nat_lt 0 y) (nat_le y (2 ^ 62)) e in (ltb-true 0 y p.0, leb-true y (2 ^ 62) p.1)

pub city_spells : (tail : List ℕ) (v : ℕ) (x : ℤ) → v < 10 ^ 19 → tail ≡ 32 ∷ decimal v ++ (32 ∷ signed_decimal x) → Spells tail v (32 ∷ signed_decimal x)
city_spells tail v x h e = record { said = e; small = h; ends = refl }

narrow : (x : ℤ) → nat_abs x ≤ 2 ^ 62 → to_z w64 (of_z w64 x) ≡ x
narrow (pos n) h = omega (arith, ints)
narrow (negsuc n) h = omega (arith, ints)

-- such a dual fits the type
pub narrow_same : (x : ℤ) → is_dual (nat_abs x) ≡ true → to_z w64 (of_z w64 x) ≡ x
narrow_same x d = narrow x (dual_bounds (nat_abs x) d).1

word_of : (n : ℕ) → 0 < n → n ≤ 2 ^ 62 → BeginsWith (decimal n) n []
word_of n some most = record { said = sym (append_nil (decimal n)); small = omega arith; ends = tt }

minus_first : (n : ℕ) → 0 < n → n ≤ 2 ^ 62 → first_is 45 (decimal n) ≡ true → ⊥
minus_first n some most e = let f = first_decimal n some (omega arith) in let g = first_at (decimal n) e in omega arith
  where
    first_at : (bs : List ℕ) → first_is 45 bs ≡ true → get_or bs 0 0 ≡ 45
    first_at [] e = cc
    first_at (b ∷ bs) e = grind (arith, nat_tests)

-- a spelled dual with a minus sign is that of the digits behind it
pub negative_spelled : (text : List ℕ) (x : ℤ) → is_dual (nat_abs x) ≡ true → text ≡ 32 ∷ signed_decimal x → first_is 45 (drop 1 text) ≡ true → BeginsWith (drop 1 (drop 1 text)) (nat_abs x) []
negative_spelled text (pos n) d e f = absurd (let b = dual_bounds n d in minus_first n b.0 b.1 (subst (λ t. first_is 45 (drop 1 t) ≡ true) e f))
negative_spelled text (negsuc n) d e f = let b = dual_bounds (suc n) d in subst (λ t. BeginsWith (drop 1 (drop 1 t)) (suc n) []) (sym e) (word_of (suc n) b.0 b.1)

-- and one without is that of the digits
pub positive_spelled : (text : List ℕ) (x : ℤ) → is_dual (nat_abs x) ≡ true → text ≡ 32 ∷ signed_decimal x → first_is 45 (drop 1 text) ≡ false → BeginsWith (drop 1 text) (nat_abs x) []
positive_spelled text (pos n) d e f = let b = dual_bounds n d in subst (λ t. BeginsWith (drop 1 t) n []) (sym e) (word_of n b.0 b.1)
positive_spelled text (negsuc n) d e f = absurd (not_minus (subst (λ t. first_is 45 (drop 1 t) ≡ false) e f))
  where
    not_minus : true ≡ false → ⊥
    not_minus g = cc
