-- Equality of instances.
use Rattle.std.proofs.Common.{◌≡◌, ◌↔◌, ℕ, Bool, true, false, ◌==◌, ◌&&◌, List, [], ◌∷◌, IsTrue, refl, arith}
use Rattle.std.proofs.lemmas.Bool.{false≢true}
use Rattle.std.specs.Cmp.Lexicographic.{pointwise}
use Rattle.std.proofs.lemmas.Bool.Decides.{nat_tests}
use Rattle.tspdef.specs.Instances.{Instance}
use Rattle.tspinst.specs.Tables.{same_pair, is_same, same_is_equivalence}

both : (a b : Bool) → (a && b) ≡ true → (a ≡ true) × (b ≡ true)
both true b e = (refl, e)
both false b e = absurd (false≢true e)

same_numbers : (x y : ℕ) → (x == y) ≡ true → x ≡ y
same_numbers x y e = grind (arith, nat_tests)

pairs_same : (xs ys : List (ℕ × ℕ)) → pointwise same_pair xs ys ≡ true → xs ≡ ys
pairs_same [] [] e = refl
pairs_same [] (y ∷ ys) e = absurd (false≢true e)
pairs_same (x ∷ xs) [] e = absurd (false≢true e)
pairs_same (x ∷ xs) (y ∷ ys) e =
    let h = both (same_pair x y) (pointwise same_pair xs ys) e in
    let g = both (x.0 == y.0) (x.1 == y.1) h.0 in
    rw (same_numbers x.0 y.0 g.0, same_numbers x.1 y.1 g.1, pairs_same xs ys h.1) refl

numbers_same : (xs ys : List ℕ) → pointwise ◌==◌ xs ys ≡ true → xs ≡ ys
numbers_same [] [] e = refl
numbers_same [] (y ∷ ys) e = absurd (false≢true e)
numbers_same (x ∷ xs) [] e = absurd (false≢true e)
numbers_same (x ∷ xs) (y ∷ ys) e =
    let h = both (x == y) (pointwise ◌==◌ xs ys) e in
    rw (same_numbers x y h.0, numbers_same xs ys h.1) refl

told : (i j : Instance) → is_same i j ≡ true → i ≡ j
told i j e =
    let h = both (i.n == j.n) (pointwise ◌==◌ i.table j.table && pointwise same_pair i.fixed j.fixed) e in
    let g = both (pointwise ◌==◌ i.table j.table) (pointwise same_pair i.fixed j.fixed) h.1 in
    rw (same_numbers i.n j.n h.0, numbers_same i.table j.table g.0, pairs_same i.fixed j.fixed g.1) refl

-- two instances are equal exactly where they are the same
pub same_told : (i j : Instance) (r : Bool) → r ≡ is_same i j → IsTrue r ↔ (i ≡ j)
same_told i j r e = rw e (told i j, λ h. rw h (same_is_equivalence.refl j))
