-- What is written is within the bounds of form.
use Rattle.std.proofs.Common.{◌≡◌, ℕ, suc, ◌+◌, ◌*◌, ◌^◌, ◌<◌, ◌≤◌, true, ◌&&◌, List, [], ◌∷◌, length, map, refl, ◌∙◌, ap, arith, decimal}
use Rattle.std.specs.Prelude.{nat_abs, nat_lt, nat_le, ◌==◌, ℤ, pos, negsuc, codes}
use Rattle.std.specs.Fmt.{signed_decimal}
use Rattle.std.specs.List.{AllByRecursion, join_with_byte}
use Rattle.std.proofs.lemmas.Bool.{and_from, lt-ltb, le-leb, eq-eqb}
use Rattle.std.proofs.lemmas.Fmt.{length-decimal-le_wide}
use Rattle.std.proofs.lemmas.List.{length-append, length-map}
use Rattle.tspdef.specs.Sets.{RisesFrom, IsSet}
use Rattle.certdef.specs.Items.{Item, title_line, size_line, length_line, bound_line, tour_line, cuts_line, comb_line, odd_line, pair_line, edge_line, leaf_line, city_line, cut_line, condition_line, open_line, words, set_words, line, rises, each_below, is_set, is_dual, in_bounds, longest, fits}
use Rattle.certform.specs.Written.{from_one}
use Rattle.certform.proofs.Sorting.{rises_again}
use Rattle.certform.proofs.LineLemmas.{spaced, joined}

-- ---- how long numbers are

digits : (n : ℕ) → n ≤ 2 ^ 62 → length (decimal n) ≤ 20
digits n h = length-decimal-le_wide 20 n (omega arith) (omega arith) (omega arith)

few_digits : (c : ℕ) → c < 10000 → length (decimal c) ≤ 4
few_digits c h = length-decimal-le_wide 4 c (omega arith) (omega arith) (omega arith)

signed_digits : (x : ℤ) → nat_abs x ≤ 2 ^ 62 → length (signed_decimal x) ≤ 21
signed_digits (pos n) h = let d = digits n h in omega arith
signed_digits (negsuc n) h = let d = digits (suc n) h in omega arith

-- ---- how long lines are

length_spaced : (w : List ℕ) (ws : List (List ℕ)) → length (spaced (w ∷ ws)) ≡ 1 + length w + length (spaced ws)
length_spaced w ws = let l = length-append (32 ∷ w) (spaced ws) in omega arith

line_length : (x : Item) (w : List ℕ) (ws : List (List ℕ)) → words x ≡ w ∷ ws → length (line x) ≡ length w + length (spaced ws)
line_length x w ws e = ap length (ap (join_with_byte 32) e ∙ joined w ws) ∙ length-append w (spaced ws)

short_numbers : (cs : List ℕ) → AllByRecursion (λ c. c < 10000) cs → length (spaced (map decimal cs)) ≤ 5 * length cs
short_numbers [] h = omega arith
short_numbers (c ∷ cs) h =
    let d = few_digits c h.0 in let ih = short_numbers cs h.1 in let l = length_spaced (decimal c) (map decimal cs) in omega arith

fits_from : (n : ℕ) (x : Item) → in_bounds n x ≡ true → length (line x) ≤ 16384 → fits n x ≡ true
fits_from n x b l = and_from (in_bounds n x) (nat_le (length (line x)) longest) b (le-leb (length (line x)) longest l)

fits_none : (n : ℕ) (x : Item) (w : List ℕ) → words x ≡ w ∷ [] → length w ≤ 16 → in_bounds n x ≡ true → fits n x ≡ true
fits_none n x w e l b = fits_from n x b (let k = line_length x w [] e in omega arith)

fits_number : (n : ℕ) (x : Item) (w : List ℕ) (a : List ℕ) → words x ≡ w ∷ a ∷ [] → length w ≤ 16 → length a ≤ 21 → in_bounds n x ≡ true → fits n x ≡ true
fits_number n x w a e l m b = fits_from n x b (let k = line_length x w (a ∷ []) e in let j = length_spaced a [] in omega arith)

fits_two : (n : ℕ) (x : Item) (w : List ℕ) (a b : List ℕ) → words x ≡ w ∷ a ∷ b ∷ [] → length w ≤ 16 → length a ≤ 21 → length b ≤ 21 → in_bounds n x ≡ true → fits n x ≡ true
fits_two n x w a b e l m p q =
    fits_from n x q (let k = line_length x w (a ∷ b ∷ []) e in let j = length_spaced a (b ∷ []) in let i = length_spaced b [] in omega arith)

-- ---- each kind of line

pub fits_title : (n v : ℕ) → 1 ≤ v → v ≤ 2 → fits n (title_line v) ≡ true
fits_title n v a b = fits_number n (title_line v) (codes "TSPCERT") (decimal v) refl (omega arith) (let d = digits v (omega arith) in omega arith) (and_from (nat_lt 0 v) (nat_le v 2) (lt-ltb 0 v a) (le-leb v 2 b))

pub fits_size : (n : ℕ) → n ≤ 2000 → fits n (size_line n) ≡ true
fits_size n few = fits_number n (size_line n) (codes "N") (decimal n) refl (omega arith) (let d = digits n (omega arith) in omega arith) (lt-ltb n (2 ^ 32) (omega arith))

pub fits_length : (n l : ℕ) → l ≤ 2 ^ 42 → fits n (length_line l) ≡ true
fits_length n l few = fits_number n (length_line l) (codes "LENGTH") (decimal l) refl (omega arith) (let d = digits l (omega arith) in omega arith) (le-leb l (2 ^ 42) few)

pub fits_bound : (n b : ℕ) → b ≤ 2 ^ 42 → fits n (bound_line b) ≡ true
fits_bound n b few = fits_number n (bound_line b) (codes "BOUND") (decimal b) refl (omega arith) (let d = digits b (omega arith) in omega arith) (le-leb b (2 ^ 42) few)

each_small : (cs : List ℕ) → AllByRecursion (λ c. c < 10000) cs → each_below (10 ^ 10) cs ≡ true
each_small [] h = refl
each_small (c ∷ cs) h = let small = h.0 in and_from (nat_lt c (10 ^ 10)) (each_below (10 ^ 10) cs) (lt-ltb c (10 ^ 10) (omega arith)) (each_small cs h.1)

pub fits_tour : (n : ℕ) (cs : List ℕ) → n ≤ 2000 → length cs ≡ n → AllByRecursion (λ c. c < 10000) cs → fits n (tour_line cs) ≡ true
fits_tour n cs few e h =
    fits_from n (tour_line cs) (and_from (length cs == n) (each_below (10 ^ 10) cs) (eq-eqb (length cs) n e) (each_small cs h))
    (let k = line_length (tour_line cs) (codes "TOUR") (map decimal cs) refl in let s = short_numbers cs h in omega arith)

pub fits_count : (n k : ℕ) → k < 2 ^ 32 → fits n (cuts_line k) ≡ true
fits_count n k few = fits_number n (cuts_line k) (codes "CUTS") (decimal k) refl (omega arith) (let d = digits k (omega arith) in omega arith) (lt-ltb k (2 ^ 32) few)

pub fits_comb : (n t : ℕ) → t ≤ 2000 → fits n (comb_line t) ≡ true
fits_comb n t few = fits_number n (comb_line t) (codes "C") (decimal t) refl (omega arith) (let d = digits t (omega arith) in omega arith) (le-leb t 2000 few)

pub fits_odd : (n t : ℕ) → 1 ≤ t → t ≤ 4095 → fits n (odd_line t) ≡ true
fits_odd n t some few = fits_number n (odd_line t) (codes "B") (decimal t) refl (omega arith) (let d = digits t (omega arith) in omega arith) (and_from (nat_lt 0 t) (nat_le t 4095) (lt-ltb 0 t some) (le-leb t 4095 few))

pub fits_pair : (n u v : ℕ) → n ≤ 2000 → u < v → v < n → fits n (pair_line (u + 1) (v + 1)) ≡ true
fits_pair n u v few l m =
    fits_two n (pair_line (u + 1) (v + 1)) (codes "F") (decimal (u + 1)) (decimal (v + 1)) refl (omega arith)
    (let d = digits (u + 1) (omega arith) in omega arith) (let d = digits (v + 1) (omega arith) in omega arith)
    (and_from (nat_lt 0 (u + 1)) (nat_lt (u + 1) (v + 1) && nat_le (v + 1) n) (lt-ltb 0 (u + 1) (omega arith))
    (and_from (nat_lt (u + 1) (v + 1)) (nat_le (v + 1) n) (lt-ltb (u + 1) (v + 1) (omega arith)) (le-leb (v + 1) n (omega arith))))

pub fits_edge : (n u v : ℕ) → n ≤ 2000 → u < v → v < n → fits n (edge_line (u + 1) (v + 1)) ≡ true
fits_edge n u v few l m =
    fits_two n (edge_line (u + 1) (v + 1)) (codes "E") (decimal (u + 1)) (decimal (v + 1)) refl (omega arith)
    (let d = digits (u + 1) (omega arith) in omega arith) (let d = digits (v + 1) (omega arith) in omega arith)
    (and_from (nat_lt 0 (u + 1)) (nat_lt (u + 1) (v + 1) && nat_le (v + 1) n) (lt-ltb 0 (u + 1) (omega arith))
    (and_from (nat_lt (u + 1) (v + 1)) (nat_le (v + 1) n) (lt-ltb (u + 1) (v + 1) (omega arith)) (le-leb (v + 1) n (omega arith))))

pub fits_leaf : (n a b c : ℕ) → n ≤ 2000 → a ≤ n → b ≤ 4096 → c ≤ 4096 → fits n (leaf_line a b c) ≡ true
fits_leaf n a b c few la lb lc =
    fits_from n (leaf_line a b c)
    (and_from (nat_le a n) (nat_le b 4096 && nat_le c 4096) (le-leb a n la) (and_from (nat_le b 4096) (nat_le c 4096) (le-leb b 4096 lb) (le-leb c 4096 lc)))
    (let k = line_length (leaf_line a b c) (codes "L") (decimal a ∷ decimal b ∷ decimal c ∷ []) refl in
    let i = length_spaced (decimal a) (decimal b ∷ decimal c ∷ []) in let j = length_spaced (decimal b) (decimal c ∷ []) in let m = length_spaced (decimal c) [] in
    let x = digits a (omega arith) in let y = digits b (omega arith) in let z = digits c (omega arith) in omega arith)

dual_is_dual : (y : ℕ) → 1 ≤ y → y ≤ 2 ^ 62 → is_dual y ≡ true
dual_is_dual y a b = and_from (nat_lt 0 y) (nat_le y (2 ^ 62)) (lt-ltb 0 y a) (le-leb y (2 ^ 62) b)

pub fits_city : (n v : ℕ) (x : ℤ) → n ≤ 2000 → 1 ≤ v → v ≤ n → 1 ≤ nat_abs x → nat_abs x ≤ 2 ^ 62 → fits n (city_line v x) ≡ true
fits_city n v x few a b c d =
    fits_two n (city_line v x) (codes "P") (decimal v) (signed_decimal x) refl (omega arith) (let e = digits v (omega arith) in omega arith) (signed_digits x d)
    (and_from (nat_lt 0 v && nat_le v n) (is_dual (nat_abs x)) (and_from (nat_lt 0 v) (nat_le v n) (lt-ltb 0 v a) (le-leb v n b)) (dual_is_dual (nat_abs x) c d))

pub fits_cut : (n k y : ℕ) → 1 ≤ k → k < 2 ^ 32 → 1 ≤ y → y ≤ 2 ^ 62 → fits n (cut_line k y) ≡ true
fits_cut n k y a b c d =
    fits_two n (cut_line k y) (codes "Y") (decimal k) (decimal y) refl (omega arith) (let e = digits k (omega arith) in omega arith) (let e = digits y d in omega arith)
    (and_from (nat_lt 0 k && nat_lt k (2 ^ 32)) (is_dual y) (and_from (nat_lt 0 k) (nat_lt k (2 ^ 32)) (lt-ltb 0 k a) (lt-ltb k (2 ^ 32) b)) (dual_is_dual y c d))

pub fits_condition : (n k y : ℕ) → 1 ≤ k → k < 2 ^ 32 → 1 ≤ y → y ≤ 2 ^ 62 → fits n (condition_line k y) ≡ true
fits_condition n k y a b c d =
    fits_two n (condition_line k y) (codes "Z") (decimal k) (decimal y) refl (omega arith) (let e = digits k (omega arith) in omega arith) (let e = digits y d in omega arith)
    (and_from (nat_lt 0 k && nat_lt k (2 ^ 32)) (is_dual y) (and_from (nat_lt 0 k) (nat_lt k (2 ^ 32)) (lt-ltb 0 k a) (lt-ltb k (2 ^ 32) b)) (dual_is_dual y c d))

pub fits_open : (n : ℕ) → fits n open_line ≡ true
fits_open n = fits_none n open_line (codes "O") refl (omega arith) refl

-- ---- sets

-- a rising list has no more cities than there are from m on
pub rising_few : (n m : ℕ) (s : List ℕ) → RisesFrom n m s → m ≤ n → m + length s ≤ n
rising_few n m [] r h = omega arith
rising_few n m (c ∷ cs) r h = let l = r.0 in let ih = rising_few n (c + 1) cs r.1 (omega arith) in omega arith

rises_from_one : (n m : ℕ) (s : List ℕ) → RisesFrom n m s → rises (m + 1) n (from_one s) ≡ true
rises_from_one n m [] r = refl
rises_from_one n m (c ∷ cs) r = let l = r.0 in rises_again (m + 1) n (c + 1) (from_one cs) (omega arith) (omega arith) (rises_from_one n (c + 1) cs r.1)

pub small_cities : (n m : ℕ) (s : List ℕ) → n ≤ 2000 → RisesFrom n m s → AllByRecursion (λ c. c < 10000) (from_one s)
small_cities n m [] few r = tt
small_cities n m (c ∷ cs) few r = let l = r.0 in (omega arith, small_cities n (c + 1) cs few r.1)

pub set_is_set : (n : ℕ) (s : List ℕ) → IsSet n s → 1 ≤ length s → is_set n (from_one s) ≡ true
set_is_set n s r some =
    let l = length-map s (λ c. c + 1) in
    and_from (nat_lt 0 (length (from_one s))) (rises 1 n (from_one s)) (lt-ltb 0 (length (from_one s)) (omega arith)) (rises_from_one n 0 s r)

pub fits_set : (n : ℕ) (x : Item) (w : List ℕ) (s : List ℕ) → n ≤ 2000 → IsSet n s → words x ≡ w ∷ set_words (from_one s) → length w ≤ 16 → in_bounds n x ≡ true → fits n x ≡ true
fits_set n x w s few r e l b =
    fits_from n x b
    (let k = line_length x w (set_words (from_one s)) e in
    let j = length_spaced (decimal (length (from_one s))) (map decimal (from_one s)) in
    let i = length-map s (λ c. c + 1) in
    let f = rising_few n 0 s r (omega arith) in
    let d = digits (length (from_one s)) (omega arith) in
    let h = short_numbers (from_one s) (small_cities n 0 s few r) in omega arith)
