use Rattle.std.proofs.Common.{◌≡◌, ℕ, zero, suc, ◌+◌, ◌*◌, ◌^◌, ◌<◌, ◌≤◌, cond, List, [], ◌∷◌, length, arith}
use Rattle.std.specs.Prelude.{ℤ, pos, negsuc, nat_abs, ◌+ℤ◌, ◌≤ℤ◌, Option, Some, None, slice_index_or}
use mir.Syntax.{w64, w128}
use mir.Val.{SFits, to_z, of_z}
use Rattle.std.specs.Int.{int_min}
use Rattle.std.specs.List.{AllByRecursion}
use Rattle.std.proofs.Math.Nat.{mul-le-mul_left, mul-le-mul}
use Rattle.std.proofs.lemmas.Int.{ints, clamps, to_z-of_z}
use Rattle.std.proofs.lemmas.Bool.{cond_both}
use Rattle.tspdef.specs.Tours.{crosses}
use Rattle.tspdef.specs.Sets.{has}
use Rattle.tspdef.specs.Instances.{Instance, IsInstance, dist}
use Rattle.tspdef.specs.Cuts.{Cut, subtour, comb, odd, IsCut, coefficient, right_side}
use Rattle.tspdef.specs.Paths.{Condition, fixed, absent, present, two, four, is_absent, is_present, condition_at}
use Rattle.tspdef.specs.Closings.{Closing, IsDualSize, IsClosing}
use Rattle.tspdef.specs.Sums.{sum_below, sum_pairs}
use Rattle.tspdef.specs.Bounds.{Row, at_least, exactly, cut_rows, condition_row, condition_rows, price, worth, city_dual, reduced_cost, pair_term, bound}
use Rattle.tspdef.proofs.SmallCuts.{cuts_are_small}
use Rattle.cutform.proofs.PartLemmas.{coefficient_few}
use Rattle.pricer.specs.Sizes.{IsWithin}

pub within_zero : (m : ℕ) → IsWithin m (pos 0)
within_zero m = record { low = omega (arith, ints); high = omega (arith, ints) }

pub within_more : (m k : ℕ) (x : ℤ) → m ≤ k → IsWithin m x → IsWithin k x
within_more m k x l h = record { low = omega (arith, ints); high = omega (arith, ints) }

pub sum_below_size : (f : ℕ → ℤ) (m n : ℕ) → ((k : ℕ) → k < n → IsWithin m (f k)) → IsWithin (m * n) (sum_below f n)
sum_below_size f m zero h = within_zero (m * 0)
sum_below_size f m (suc n) h =
    let ih = sum_below_size f m n (λ k l. h k (omega arith)) in
    let here = h n (omega arith) in
    record { low = omega (arith, ints); high = omega (arith, ints) }

pub sum_pairs_size : (f : ℕ → ℕ → ℤ) (m n : ℕ) → ((u v : ℕ) → u < v → v < n → IsWithin m (f u v)) → IsWithin (m * (n * n)) (sum_pairs f n)
sum_pairs_size f m zero h = within_zero (m * (0 * 0))
sum_pairs_size f m (suc n) h =
    let ih = sum_pairs_size f m n (λ u v q l. h u v q (omega arith)) in
    let here = sum_below_size (λ u. f u n) m n (λ u l. h u n l (omega arith)) in
    record { low = omega (arith, ints); high = omega (arith, ints) }

min_size : (m : ℕ) (x : ℤ) → IsWithin m x → IsWithin m (int_min (pos 0) x)
min_size m x h = record { low = omega (arith, ints, clamps); high = omega (arith, ints, clamps) }

-- a pair adds no more than its reduced cost
pub term_size : (path : List Condition) (r : ℕ → ℕ → ℤ) (m u v : ℕ) → IsWithin m (r u v) → IsWithin m (pair_term path r u v)
term_size path r m u v h = cond_both (is_present path u v) (r u v) (cond (is_absent path u v) (pos 0) (int_min (pos 0) (r u v))) (IsWithin m) (λ _. h)
    (λ _. cond_both (is_absent path u v) (pos 0) (int_min (pos 0) (r u v)) (IsWithin m) (λ _. within_zero m) (λ _. min_size m (r u v) h))

-- ---- rows

-- the right side of a cut
right_few : (n : ℕ) (c : Cut) → n ≤ 2000 → IsCut n c → right_side c ≤ 12286
right_few n (subtour m s) l is = omega arith
right_few n (comb m h ts) l is = let right = (cuts_are_small n (comb m h ts) is).right in omega arith
right_few n (odd m h ps) l is = let right = (cuts_are_small n (odd m h ps) is).right in omega arith

pub price_cuts_size : (n : ℕ) (qs : List (Cut × ℕ)) (u v : ℕ) → n ≤ 2000 → AllByRecursion (λ q. IsCut n q.0) qs → AllByRecursion (λ q. IsDualSize q.1) qs
    → (pos 0 ≤ℤ (price (cut_rows qs) u v)) × ((price (cut_rows qs) u v) ≤ℤ pos (2 ^ 62 * 3999 * length qs))
price_cuts_size n [] u v l cuts sizes = (omega (arith, ints), omega (arith, ints))
price_cuts_size n (q ∷ qs) u v l cuts sizes =
    let ih = price_cuts_size n qs u v l cuts.1 sizes.1 in
    let few = coefficient_few n q.0 u v l cuts.0 in
    let big = sizes.0.1 in
    let most = mul-le-mul big few in
    (omega (arith, ints), omega (arith, ints))

pub worth_cuts_size : (n : ℕ) (qs : List (Cut × ℕ)) → n ≤ 2000 → AllByRecursion (λ q. IsCut n q.0) qs → AllByRecursion (λ q. IsDualSize q.1) qs
    → (pos 0 ≤ℤ (worth (cut_rows qs))) × ((worth (cut_rows qs)) ≤ℤ pos (2 ^ 62 * 12286 * length qs))
worth_cuts_size n [] l cuts sizes = (omega (arith, ints), omega (arith, ints))
worth_cuts_size n (q ∷ qs) l cuts sizes =
    let ih = worth_cuts_size n qs l cuts.1 sizes.1 in
    let few = right_few n q.0 l cuts.0 in
    let big = sizes.0.1 in
    let most = mul-le-mul big few in
    (omega (arith, ints), omega (arith, ints))

one_set : (s : List ℕ) (u v : ℕ) → coefficient (s ∷ []) u v ≤ 1
one_set s u v = cond_both (crosses (has s) (u, v)) 1 0 (λ (k : ℕ). k + 0 ≤ 1) (λ _. omega arith) (λ _. omega arith)

row_price_size : (o : Option Condition) (z u v : ℕ) → z ≤ 2 ^ 62 → IsWithin (2 ^ 62) (price (condition_row o z ∷ []) u v)
row_price_size (Some (two s)) z u v h = let most = mul-le-mul h (one_set s u v) in record { low = omega (arith, ints); high = omega (arith, ints) }
row_price_size (Some (four s)) z u v h = let most = mul-le-mul h (one_set s u v) in record { low = omega (arith, ints); high = omega (arith, ints) }
row_price_size (Some (fixed a b)) z u v h = record { low = omega (arith, ints); high = omega (arith, ints) }
row_price_size (Some (absent a b)) z u v h = record { low = omega (arith, ints); high = omega (arith, ints) }
row_price_size (Some (present a b)) z u v h = record { low = omega (arith, ints); high = omega (arith, ints) }
row_price_size None z u v h = record { low = omega (arith, ints); high = omega (arith, ints) }

row_worth_size : (o : Option Condition) (z : ℕ) → z ≤ 2 ^ 62 → IsWithin (2 ^ 64) (worth (condition_row o z ∷ []))
row_worth_size (Some (two s)) z h = record { low = omega (arith, ints); high = omega (arith, ints) }
row_worth_size (Some (four s)) z h = record { low = omega (arith, ints); high = omega (arith, ints) }
row_worth_size (Some (fixed a b)) z h = record { low = omega (arith, ints); high = omega (arith, ints) }
row_worth_size (Some (absent a b)) z h = record { low = omega (arith, ints); high = omega (arith, ints) }
row_worth_size (Some (present a b)) z h = record { low = omega (arith, ints); high = omega (arith, ints) }
row_worth_size None z h = record { low = omega (arith, ints); high = omega (arith, ints) }

-- a row in front
pub price-cons : (row : Row) (rows : List Row) (u v : ℕ) → price (row ∷ rows) u v ≡ price rows u v +ℤ price (row ∷ []) u v
price-cons (at_least ss r y) rows u v = omega (arith, ints)
price-cons (exactly ss r y) rows u v = omega (arith, ints)

pub worth-cons : (row : Row) (rows : List Row) → worth (row ∷ rows) ≡ worth rows +ℤ worth (row ∷ [])
worth-cons (at_least ss r y) rows = omega (arith, ints)
worth-cons (exactly ss r y) rows = omega (arith, ints)

pub price_conds_size : (path : List Condition) (qs : List (ℕ × ℕ)) (u v : ℕ) → AllByRecursion (λ q. IsDualSize q.1) qs
    → IsWithin (2 ^ 62 * length qs) (price (condition_rows path qs) u v)
price_conds_size path [] u v sizes = within_zero (2 ^ 62 * 0)
price_conds_size path (q ∷ qs) u v sizes =
    let ih = price_conds_size path qs u v sizes.1 in
    let one = row_price_size (condition_at path q.0) q.1 u v sizes.0.1 in
    let add = price-cons (condition_row (condition_at path q.0) q.1) (condition_rows path qs) u v in
    record { low = omega (arith, ints); high = omega (arith, ints) }

pub worth_conds_size : (path : List Condition) (qs : List (ℕ × ℕ)) → AllByRecursion (λ q. IsDualSize q.1) qs
    → IsWithin (2 ^ 64 * length qs) (worth (condition_rows path qs))
worth_conds_size path [] sizes = within_zero (2 ^ 64 * 0)
worth_conds_size path (q ∷ qs) sizes =
    let ih = worth_conds_size path qs sizes.1 in
    let one = row_worth_size (condition_at path q.0) q.1 sizes.0.1 in
    let add = worth-cons (condition_row (condition_at path q.0) q.1) (condition_rows path qs) in
    record { low = omega (arith, ints); high = omega (arith, ints) }

abs_within : (m : ℕ) (x : ℤ) → nat_abs x ≤ m → IsWithin m x
abs_within m (pos k) h = record { low = omega (arith, ints); high = omega (arith, ints) }
abs_within m (negsuc k) h = record { low = omega (arith, ints); high = omega (arith, ints) }

cities_size : (ys : List ℤ) (k : ℕ) → AllByRecursion (λ y. nat_abs y ≤ 2 ^ 62) ys → IsWithin (2 ^ 62) (slice_index_or ys k (pos 0))
cities_size [] k h = within_zero (2 ^ 62)
cities_size (y ∷ ys) zero h = abs_within (2 ^ 62) y h.0
cities_size (y ∷ ys) (suc k) h = cities_size ys k h.1

pub city_size : (n : ℕ) (path : List Condition) (c : Closing) (k : ℕ) → IsClosing n path c → IsWithin (2 ^ 62) (city_dual c k)
city_size n path c k h = cities_size c.city k h.sizes.city

-- ---- a closing

pub reduced_cost_size : (i : Instance) (path : List Condition) (c : Closing) (u v : ℕ) → IsInstance i → IsClosing i.n path c → IsWithin (2 ^ 87) (reduced_cost i path c u v)
reduced_cost_size i path c u v is h =
    let few = is.few in
    let d : dist i u v < 2 ^ 30 = is.small _ in
    let a = city_size i.n path c u h in
    let b = city_size i.n path c v h in
    let cuts = price_cuts_size i.n c.cuts u v few h.cuts h.sizes.cuts in
    let conds = price_conds_size path c.conds u v h.sizes.conds in
    let many = h.counts.cuts in
    let more = h.counts.conds in
    record { low = omega (arith, ints); high = omega (arith, ints) }

square_size : (n : ℕ) → n ≤ 2000 → n * n ≤ 2000 * 2000
square_size n h = mul-le-mul h h

-- what all pairs add, for any path
pub terms_size : (r : ℕ → ℕ → ℤ) (m n : ℕ) (path : List Condition) → n ≤ 2000 → ((u v : ℕ) → IsWithin m (r u v)) → IsWithin (m * (2000 * 2000)) (sum_pairs (pair_term path r) n)
terms_size r m n path l h =
    let all = sum_pairs_size (pair_term path r) m n (λ u v q k. term_size path r m u v (h u v)) in
    let s = mul-le-mul_left m (square_size n l) in
    record { low = omega (arith, ints); high = omega (arith, ints) }

pub bound_size : (i : Instance) (path : List Condition) (c : Closing) → IsInstance i → IsClosing i.n path c → IsWithin (2 ^ 110) (bound i path c)
bound_size i path c is h =
    let few = is.few in
    let pairs = terms_size (reduced_cost i path c) (2 ^ 87) i.n path few (λ u v. reduced_cost_size i path c u v is h) in
    let city = sum_below_size (city_dual c) (2 ^ 62) i.n (λ k l. city_size i.n path c k h) in
    let cuts = worth_cuts_size i.n c.cuts few h.cuts h.sizes.cuts in
    let conds = worth_conds_size path c.conds h.sizes.conds in
    let many = h.counts.cuts in
    let more = h.counts.conds in
    record { low = omega (arith, ints); high = omega (arith, ints) }

-- a number of small size fits 128 bits with a sign
pub fits128 : (m : ℕ) (x : ℤ) → m < 2 ^ 127 → IsWithin m x → SFits w128 x
fits128 m (pos k) l h = record { sfits = omega (arith, ints) }
fits128 m (negsuc k) l h = record { sfits = omega (arith, ints) }

-- so it is read back from its bits
pub read128 : (m : ℕ) (x : ℤ) → m < 2 ^ 127 → IsWithin m x → to_z w128 (of_z w128 x) ≡ x
read128 m x l h = to_z-of_z w128 x (fits128 m x l h)

-- the same of 64 bits
fits64 : (m : ℕ) (x : ℤ) → m < 2 ^ 63 → IsWithin m x → SFits w64 x
fits64 m (pos k) l h = record { sfits = omega (arith, ints) }
fits64 m (negsuc k) l h = record { sfits = omega (arith, ints) }

pub read64 : (m : ℕ) (x : ℤ) → m < 2 ^ 63 → IsWithin m x → to_z w64 (of_z w64 x) ≡ x
read64 m x l h = to_z-of_z w64 x (fits64 m x l h)
