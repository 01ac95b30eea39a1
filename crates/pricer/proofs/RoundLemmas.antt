use Rattle.std.proofs.Common.{◌≡◌, ℕ, zero, suc, ◌+◌, ◌^◌, ◌<◌, ◌≤◌, cond, false, List, [], ◌∷◌, ◌++◌, length, map, take, min, get_or, refl, ap, ◌∙◌, arith}
use Rattle.std.specs.Prelude.{ℤ, pos, nat_abs, int_lt, replicate}
use Rattle.std.specs.List.{AllByRecursion}
use Rattle.std.proofs.lemmas.Bool.{cond_both}
use Rattle.std.proofs.lemmas.Int.{ints, clamps}
use Rattle.std.proofs.lemmas.List.{take_more, get_or-replicate, length-replicate, length-take, append-nil}
use Rattle.tspdef.specs.Cuts.{Cut}
use Rattle.tspdef.specs.Closings.{IsDualSize, HasCounts, HasSizes}
use Rattle.pricer.specs.Rounds.{clamped, positive, rounded}

-- one more behind those that are gone through
pub positive_push : {X : Type 0} (qs : List (X × ℤ)) (q : X × ℤ) → positive (qs ++ q ∷ []) ≡ positive qs ++ positive (q ∷ [])
positive_push {X} [] q = refl
positive_push {X} (p ∷ qs) q = cond_both (int_lt (pos 0) p.1) ((p.0, min (nat_abs p.1) (2 ^ 62)) ∷ positive (qs ++ q ∷ [])) (positive (qs ++ q ∷ []))
    (λ l. l ≡ cond (int_lt (pos 0) p.1) ((p.0, min (nat_abs p.1) (2 ^ 62)) ∷ positive qs) (positive qs) ++ positive (q ∷ []))
    (λ e. grind (arith, e, positive_push {X = X} qs q)) (λ e. grind (arith, e, positive_push {X = X} qs q))

-- one that is left out
pub positive_push_none : {X : Type 0} (qs : List (X × ℤ)) (x : X) (y : ℤ) → int_lt (pos 0) y ≡ false → positive (qs ++ (x, y) ∷ []) ≡ positive qs
positive_push_none {X} qs x y e = let more = positive_push {X = X} qs (x, y) in grind (arith, more, e, append-nil (positive qs))

-- a dual that is cut has the size of one
pub clamped_size : (y : ℤ) → nat_abs (clamped y) ≤ 2 ^ 62
clamped_size y = omega (arith, ints, clamps)

-- each of the positive ones is from 1 to 2^62
pub positive_sizes : {X : Type 0} (qs : List (X × ℤ)) → AllByRecursion (λ q. IsDualSize q.1) (positive qs)
positive_sizes {X} [] = tt
positive_sizes {X} (p ∷ qs) = cond_both (int_lt (pos 0) p.1) ((p.0, min (nat_abs p.1) (2 ^ 62)) ∷ positive qs) (positive qs)
    (λ l. AllByRecursion (λ q. IsDualSize q.1) l)
    (λ e. ((omega (arith, ints), omega arith), positive_sizes {X = X} qs)) (λ e. positive_sizes {X = X} qs)

-- a fact of each element holds of the first ones
pub all_first : {X : Type 0} (P : X → Type 0) (n : ℕ) (xs : List X) → AllByRecursion P xs → AllByRecursion P (take n xs)
all_first {X} P zero xs a = tt
all_first {X} P (suc n) [] a = tt
all_first {X} P (suc n) (x ∷ xs) a = (a.0, all_first {X = X} P n xs a.1)

zeros_sizes : (n : ℕ) → AllByRecursion (λ y. nat_abs y ≤ 2 ^ 62) (replicate n (pos 0))
zeros_sizes zero = tt
zeros_sizes (suc n) = (omega arith, zeros_sizes n)

padded_sizes : (ys : List ℤ) (n : ℕ) → AllByRecursion (λ y. nat_abs y ≤ 2 ^ 62) (map clamped ys ++ replicate n (pos 0))
padded_sizes [] n = zeros_sizes n
padded_sizes (y ∷ ys) n = (clamped_size y, padded_sizes ys n)

padded_long : (ys : List ℤ) (n : ℕ) → n ≤ length (map clamped ys ++ replicate n (pos 0))
padded_long [] n = let long = length-replicate n (pos 0) in omega arith
padded_long (y ∷ ys) n = let long = padded_long ys n in omega arith

-- the dual of a city stands at its place, 0 past the end of the list
padded_at : (ys : List ℤ) (n i : ℕ) → i < n → get_or (map clamped ys ++ replicate n (pos 0)) i (pos 0) ≡ clamped (get_or ys i (pos 0))
padded_at [] n i l = get_or-replicate n i (pos 0) (pos 0) l
padded_at (y ∷ ys) n zero l = refl
padded_at (y ∷ ys) n (suc i) l = padded_at ys n i (omega arith)

-- the dual of one more city
pub city_duals_more : (ys : List ℤ) (n i : ℕ) → i < n → take (i + 1) (map clamped ys ++ replicate n (pos 0)) ≡ take i (map clamped ys ++ replicate n (pos 0)) ++ clamped (get_or ys i (pos 0)) ∷ []
city_duals_more ys n i l =
    let long = padded_long ys n in
    let more = take_more (map clamped ys ++ replicate n (pos 0)) i (pos 0) (omega arith) in
    more ∙ ap (λ y. take i (map clamped ys ++ replicate n (pos 0)) ++ y ∷ []) (padded_at ys n i l)

-- the closing of any duals has the counts and the sizes of one
pub rounded_counts : (n : ℕ) (city : List ℤ) (cuts : List (Cut × ℤ)) (conds : List (ℕ × ℤ)) → HasCounts n (rounded n city cuts conds)
rounded_counts n city cuts conds =
    let long = padded_long city n in
    let all = length-take n (map clamped city ++ replicate n (pos 0)) in
    let some = length-take 4096 (positive cuts) in
    let few = length-take 4096 (positive conds) in
    record { city = omega arith; cuts = omega arith; conds = omega arith }

pub rounded_sizes : (n : ℕ) (city : List ℤ) (cuts : List (Cut × ℤ)) (conds : List (ℕ × ℤ)) → HasSizes (rounded n city cuts conds)
rounded_sizes n city cuts conds = record {
  city = all_first (λ y. nat_abs y ≤ 2 ^ 62) n (map clamped city ++ replicate n (pos 0)) (padded_sizes city n);
  cuts = all_first (λ q. IsDualSize q.1) 4096 (positive cuts) (positive_sizes cuts);
  conds = all_first (λ q. IsDualSize q.1) 4096 (positive conds) (positive_sizes conds);
}
