use Rattle.std.proofs.Common.{◌≡◌, ℕ, suc, ◌+◌, ◌-◌, ◌<◌, ◌≤◌, List, [], ◌∷◌, ◌++◌, length, get_or, take, refl, sym, ◌∙◌, ap, arith, length-append}
use Rattle.std.proofs.lemmas.List.{get_or-take, length-take-le, get_or_append_left, get_or-append_right, length-reverse, get_or-reverse, reverse-append}
use Rattle.std.proofs.lemmas.Grind.{common_steps}
use Rattle.std.specs.Prelude.{reverse}
use Rattle.tspdef.specs.Tours.{walk, travelled, tour_length}
use Rattle.flips.proofs.Words.{IsTurn, Exchanges}

abbrev pub IsSymmetric : (ℕ → ℕ → ℕ) → Type 0
IsSymmetric d = (u v : ℕ) → d u v ≡ d v u

-- the way along a list, which does not come home
abbrev pub path : (ℕ → ℕ → ℕ) → List ℕ → ℕ
path d [] = 0
path d (x ∷ []) = 0
path d (x ∷ y ∷ zs) = d x y + path d (y ∷ zs)

pub walk_path : (d : ℕ → ℕ → ℕ) (home a : ℕ) (bs : List ℕ) → travelled d (walk home a bs) ≡ path d (a ∷ bs) + d (get_or (a ∷ bs) (length bs) 0) home
walk_path d home a [] = omega arith
walk_path d home a (b ∷ bs) = let ih = walk_path d home b bs in omega arith

pub tour_path : (d : ℕ → ℕ → ℕ) (xs : List ℕ) → 0 < length xs → tour_length d xs ≡ path d xs + d (get_or xs (length xs - 1) 0) (get_or xs 0 0)
tour_path d [] h = absurd (omega arith)
tour_path d (a ∷ bs) h =
    let w = walk_path d a a bs in
    let e : length (a ∷ bs) - 1 ≡ length bs = omega arith in
    w ∙ ap (λ v. path d (a ∷ bs) + d (get_or (a ∷ bs) v 0) a) (sym e)

path_join : (d : ℕ → ℕ → ℕ) (p q : List ℕ) → 0 < length p → 0 < length q → path d (p ++ q) ≡ path d p + d (get_or p (length p - 1) 0) (get_or q 0 0) + path d q
path_join d [] q h l = absurd (omega arith)
path_join d p [] h l = absurd (omega arith)
path_join d (x ∷ []) (y ∷ ys) h l = omega arith
path_join d (x ∷ z ∷ zs) (y ∷ ys) h l =
    let ih = path_join d (z ∷ zs) (y ∷ ys) (omega arith) l in
    let e : length (z ∷ zs) - 1 ≡ length zs = omega arith in
    let f : length (x ∷ z ∷ zs) - 1 ≡ suc (length zs) = omega arith in
    let g : get_or (z ∷ zs) (length (z ∷ zs) - 1) 0 ≡ get_or (x ∷ z ∷ zs) (length (x ∷ z ∷ zs) - 1) 0 =
    ap (λ v. get_or (z ∷ zs) v 0) e ∙ ap (λ v. get_or (x ∷ z ∷ zs) v 0) (sym f) in
    let r = ap (λ v. d v y) g in
    omega arith

reverse_cons : (x : ℕ) (xs : List ℕ) → reverse (x ∷ xs) ≡ reverse xs ++ x ∷ []
reverse_cons x xs = reverse-append (x ∷ []) xs

pub path_reverse : (d : ℕ → ℕ → ℕ) (xs : List ℕ) → IsSymmetric d → path d (reverse xs) ≡ path d xs
path_reverse d [] s = refl
path_reverse d (x ∷ []) s = refl
path_reverse d (x ∷ y ∷ zs) s =
    let ih = path_reverse d (y ∷ zs) s in
    let r = reverse (y ∷ zs) in
    let lr = length-reverse (y ∷ zs) in
    let j = path_join d r (x ∷ []) (omega arith) (omega arith) in
    let g = get_or-reverse (y ∷ zs) (length r - 1) 0 (omega arith) in
    let z : length (y ∷ zs) - 1 - (length r - 1) ≡ 0 = omega arith in
    let e : get_or r (length r - 1) 0 ≡ y = g ∙ ap (λ v. get_or (y ∷ zs) v 0) z in
    let f : d (get_or r (length r - 1) 0) x ≡ d x y = ap (λ v. d v x) e ∙ s y x in
    let whole = ap (path d) (reverse_cons x (y ∷ zs)) in
    omega arith

tour_join : (d : ℕ → ℕ → ℕ) (p q : List ℕ) → 0 < length p → 0 < length q
    → tour_length d (p ++ q) ≡ path d p + path d q + d (get_or p (length p - 1) 0) (get_or q 0 0) + d (get_or q (length q - 1) 0) (get_or p 0 0)
tour_join d p q h l =
    let n = length-append p q in
    let t = tour_path d (p ++ q) (omega arith) in
    let j = path_join d p q h l in
    let k : length (p ++ q) - 1 - length p ≡ length q - 1 = omega arith in
    let last : get_or (p ++ q) (length (p ++ q) - 1) 0 ≡ get_or q (length q - 1) 0 =
    get_or-append_right p q (length p) (length (p ++ q) - 1) 0 refl (omega arith) ∙ ap (λ v. get_or q v 0) k in
    let first = get_or_append_left p q 0 0 h in
    let e : d (get_or (p ++ q) (length (p ++ q) - 1) 0) (get_or (p ++ q) 0 0) ≡ d (get_or q (length q - 1) 0) (get_or p 0 0) =
    ap (λ v. d v (get_or (p ++ q) 0 0)) last ∙ ap (λ v. d (get_or q (length q - 1) 0) v) first in
    omega arith

join_turned : (d : ℕ → ℕ → ℕ) (p q : List ℕ) → tour_length d (p ++ q) ≡ tour_length d (q ++ p)
join_turned d [] q = grind (arith, common_steps)
join_turned d p [] = grind (arith, common_steps)
join_turned d (x ∷ xs) (y ∷ ys) =
    let a = tour_join d (x ∷ xs) (y ∷ ys) (omega arith) (omega arith) in
    let b = tour_join d (y ∷ ys) (x ∷ xs) (omega arith) (omega arith) in
    omega arith

-- a cycle has one length, from whichever place it is read
pub turn_length : (d : ℕ → ℕ → ℕ) (xs ys : List ℕ) → IsTurn xs ys → tour_length d ys ≡ tour_length d xs
turn_length d xs ys t = ap (tour_length d) t.turned ∙ join_turned d t.back t.front ∙ ap (tour_length d) (sym t.whole)

-- four distances tell how the length changes
pub exchange_length : (d : ℕ → ℕ → ℕ) (old new : List ℕ) (a b c e : ℕ) → IsSymmetric d → Exchanges old new a b c e
    → tour_length d new + (d a b + d c e) ≡ tour_length d old + (d a c + d b e)
exchange_length d old new a b c e s w =
    let p = w.part in
    let q = w.rest in
    let r = reverse p in
    let ps = w.part_some in
    let qs = w.rest_some in
    let lr = length-reverse p in
    let o = turn_length d old (p ++ q) w.before in
    let n = turn_length d new (r ++ q) w.after in
    let oj = tour_join d p q ps qs in
    let nj = tour_join d r q (omega arith) qs in
    let pr = path_reverse d p s in
    let g = get_or-reverse p 0 0 ps in
    let h = get_or-reverse p (length r - 1) 0 (omega arith) in
    let i : length p - 1 - 0 ≡ length p - 1 = omega arith in
    let j : length p - 1 - (length r - 1) ≡ 0 = omega arith in
    let first : get_or r 0 0 ≡ c = g ∙ ap (λ v. get_or p v 0) i ∙ w.part_last in
    let last : get_or r (length r - 1) 0 ≡ b = h ∙ ap (λ v. get_or p v 0) j ∙ w.part_first in
    let ce : d (get_or p (length p - 1) 0) (get_or q 0 0) ≡ d c e = ap (λ v. d v (get_or q 0 0)) w.part_last ∙ ap (λ v. d c v) w.rest_first in
    let ab : d (get_or q (length q - 1) 0) (get_or p 0 0) ≡ d a b = ap (λ v. d v (get_or p 0 0)) w.rest_last ∙ ap (λ v. d a v) w.part_first in
    let be : d (get_or r (length r - 1) 0) (get_or q 0 0) ≡ d b e = ap (λ v. d v (get_or q 0 0)) last ∙ ap (λ v. d b v) w.rest_first in
    let ac : d (get_or q (length q - 1) 0) (get_or r 0 0) ≡ d a c = ap (λ v. d v (get_or r 0 0)) w.rest_last ∙ ap (λ v. d a v) first in
    omega arith

take_more : (k : ℕ) (xs : List ℕ) → k < length xs → take (k + 1) xs ≡ take k xs ++ get_or xs k 0 ∷ []
take_more k xs h = grind (arith, common_steps)

-- one more step of the way
pub path_more : (d : ℕ → ℕ → ℕ) (k : ℕ) (xs : List ℕ) → 0 < k → k < length xs → path d (take (k + 1) xs) ≡ path d (take k xs) + d (get_or xs (k - 1) 0) (get_or xs k 0)
path_more d k xs h l =
    let n = length-take-le k xs (omega arith) in
    let j = path_join d (take k xs) (get_or xs k 0 ∷ []) (omega arith) (omega arith) in
    let e : length (take k xs) - 1 ≡ k - 1 = omega arith in
    let g = ap (λ v. get_or (take k xs) v 0) e ∙ get_or-take k xs (k - 1) 0 (omega arith) in
    let f = ap (λ v. d v (get_or xs k 0)) g in
    let w = ap (path d) (take_more k xs l) in
    omega arith

pub path_one : (d : ℕ → ℕ → ℕ) (xs : List ℕ) → path d (take 1 xs) ≡ 0
path_one d [] = refl
path_one d (x ∷ xs) = grind (arith, common_steps)

take_all : (k : ℕ) (xs : List ℕ) → length xs ≤ k → take k xs ≡ xs
take_all k xs h = grind (arith, common_steps)

pub path_all : (d : ℕ → ℕ → ℕ) (k : ℕ) (xs : List ℕ) → length xs ≤ k → path d (take k xs) ≡ path d xs
path_all d k xs h = ap (path d) (take_all k xs h)
