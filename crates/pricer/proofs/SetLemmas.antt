use Rattle.std.proofs.Common.{◌≡◌, ℕ, zero, suc, ◌+◌, ◌<◌, ◌≤◌, Bool, true, false, eqb, ◌||◌, List, [], ◌∷◌, ◌++◌, length, take, get_or, refl, sym, ◌∙◌, ap, arith}
use Rattle.std.proofs.lemmas.Bool.{ne_eqb, or_from}
use Rattle.std.proofs.lemmas.List.{take_more}
use Rattle.tspdef.specs.Sets.{has, RisesFrom}

or-assoc : (x y z : Bool) → (x || y) || z ≡ x || (y || z)
or-assoc true y z = refl
or-assoc false y z = refl

or-false : (x : Bool) → x || false ≡ x
or-false true = refl
or-false false = refl

pub has-append : (xs ys : List ℕ) (c : ℕ) → has (xs ++ ys) c ≡ has xs c || has ys c
has-append [] ys c = refl
has-append (x ∷ xs) ys c = ap (λ b. eqb x c || b) (has-append xs ys c) ∙ sym (or-assoc (eqb x c) (has xs c) (has ys c))

-- one more city
pub has_more : (xs : List ℕ) (i d c : ℕ) → i < length xs → has (take (i + 1) xs) c ≡ has (take i xs) c || eqb (get_or xs i d) c
has_more xs i d c h = ap (λ ys. has ys c) (take_more xs i d h) ∙ has-append (take i xs) (get_or xs i d ∷ []) c ∙ ap (λ b. has (take i xs) c || b) (or-false (eqb (get_or xs i d) c))

-- a city of a rising list
pub rises_at : (n m : ℕ) (xs : List ℕ) (i d : ℕ) → RisesFrom n m xs → i < length xs → (m ≤ get_or xs i d) × (get_or xs i d < n)
rises_at n m [] i d r h = absurd (omega arith)
rises_at n m (x ∷ xs) zero d r h = r.0
rises_at n m (x ∷ xs) (suc i) d r h = let p = rises_at n (x + 1) xs i d r.1 (omega arith) in let q = r.0 in (omega arith, p.1)

-- it is not among those before it
pub rises_apart : (n m : ℕ) (xs : List ℕ) (i d : ℕ) → RisesFrom n m xs → i < length xs → has (take i xs) (get_or xs i d) ≡ false
rises_apart n m [] i d r h = absurd (omega arith)
rises_apart n m (x ∷ xs) zero d r h = refl
rises_apart n m (x ∷ xs) (suc i) d r h =
    let p = rises_at n (x + 1) xs i d r.1 (omega arith) in
    or_from _ _ (ne_eqb x (get_or xs i d) (omega arith)) (rises_apart n (x + 1) xs i d r.1 (omega arith))
