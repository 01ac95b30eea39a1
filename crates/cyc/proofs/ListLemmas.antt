-- Lists of cities, from the front on.
use Rattle.std.proofs.Common.{◌≡◌, ℕ, ◌+◌, ◌<◌, Bool, true, false, eqb, ◌||◌, List, [], ◌∷◌, ◌++◌, length, zero, suc, get_or, take, refl, sym, ap, ◌∙◌, subst, arith}
use Rattle.std.specs.List.{AllByRecursion}
use Rattle.std.proofs.lemmas.Bool.{or_parts, or_from, or_left, or_right, ne_eqb, eq-eqb}
use Rattle.tspdef.specs.Sets.{has, RisesFrom}
use Rattle.tspdef.specs.Tours.{AreDistinct}

or_assoc : (x y z : Bool) → (x || y) || z ≡ x || (y || z)
or_assoc true y z = refl
or_assoc false y z = refl

pub has-append : (xs ys : List ℕ) (c : ℕ) → has (xs ++ ys) c ≡ has xs c || has ys c
has-append [] ys c = refl
has-append (x ∷ xs) ys c = ap (λ b. eqb x c || b) (has-append xs ys c) ∙ sym (or_assoc (eqb x c) (has xs c) (has ys c))

pub or_comm : (x y : Bool) → x || y ≡ y || x
or_comm true true = refl
or_comm true false = refl
or_comm false true = refl
or_comm false false = refl

or_false : (x : Bool) → x || false ≡ x
or_false true = refl
or_false false = refl

-- one more city at the end
pub has-push : (xs : List ℕ) (y c : ℕ) → has (xs ++ y ∷ []) c ≡ eqb y c || has xs c
has-push xs y c = has-append xs (y ∷ []) c ∙ ap (λ b. has xs c || b) (or_false (eqb y c)) ∙ or_comm (has xs c) (eqb y c)

pub below_push : (n : ℕ) (xs : List ℕ) (y : ℕ) → AllByRecursion (λ c. c < n) xs → y < n → AllByRecursion (λ c. c < n) (xs ++ y ∷ [])
below_push n [] y a h = (h, tt)
below_push n (x ∷ xs) y a h = (a.0, below_push n xs y a.1 h)

pub distinct_push : (xs : List ℕ) (y : ℕ) → AreDistinct xs → has xs y ≡ false → AreDistinct (xs ++ y ∷ [])
distinct_push [] y d h = (refl, tt)
distinct_push (x ∷ xs) y d h =
    let none = or_parts (eqb x y) (has xs y) h in
    let turned : eqb y x ≡ false = ne_eqb y x (λ e. let f = eq-eqb x y (sym e) in let g = none.0 in cc) in
    (has-push xs y x ∙ or_from _ _ turned d.0, distinct_push xs y d.1 none.1)

-- a list has each of its cities
pub has_at : (xs : List ℕ) (i d : ℕ) → i < length xs → has xs (get_or xs i d) ≡ true
has_at [] i d h = absurd (omega arith)
has_at (x ∷ xs) zero d h = or_left _ _ (eq-eqb x x refl)
has_at (x ∷ xs) (suc i) d h = or_right _ _ (has_at xs i d (omega arith))

-- a list of different cities has none before its place
pub distinct_at : (xs : List ℕ) (i d : ℕ) → AreDistinct xs → i < length xs → has (take i xs) (get_or xs i d) ≡ false
distinct_at [] i d a h = absurd (omega arith)
distinct_at (x ∷ xs) zero d a h = refl
distinct_at (x ∷ xs) (suc i) d a h = or_from _ _ (ne_eqb _ _ (λ e. let f : has xs x ≡ true = subst (λ k. has xs k ≡ true) (sym e) (has_at xs i d (omega arith)) in let g = a.0 in cc)) (distinct_at xs i d a.1 (omega arith))

pub below_at : (n : ℕ) (xs : List ℕ) (i d : ℕ) → AllByRecursion (λ c. c < n) xs → i < length xs → get_or xs i d < n
below_at n [] i d a h = absurd (omega arith)
below_at n (x ∷ xs) zero d a h = a.0
below_at n (x ∷ xs) (suc i) d a h = below_at n xs i d a.1 (omega arith)

-- a set's cities are below n
pub set_below : (n m : ℕ) (xs : List ℕ) → RisesFrom n m xs → AllByRecursion (λ c. c < n) xs
set_below n m [] r = tt
set_below n m (x ∷ xs) r = (r.0.1, set_below n (x + 1) xs r.1)
