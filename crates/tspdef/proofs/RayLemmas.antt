use Rattle.std.proofs.Common.{◌≡◌, ℕ, zero, suc, ◌+◌, ◌*◌, ◌^◌, ◌<◌, ◌≤◌, Bool, true, false, cond, eqb, ◌&&◌, ◌||◌, not, List, [], ◌∷◌, length, get_or, refl, sym, ◌∙◌, ap, subst, arith, ⊎_elim}
use Rattle.std.specs.Prelude.{ℤ, pos, neg_ℤ, nat_abs, ◌+ℤ◌, ◌-ℤ◌, ◌<ℤ◌, ◌≤ℤ◌, replicate, slice_set}
use Rattle.std.specs.List.{AllByRecursion}
use Rattle.std.proofs.Math.Nat.{mul-le-mul_left}
use Rattle.std.proofs.Math.ListN.{length-set}
use Rattle.std.proofs.lemmas.Int.{ints}
use Rattle.std.proofs.lemmas.Bool.{cases_lt, cases_Bool, cases_eq, eqb-true, ne_eqb, eq-eqb, cond-true, cond-false}
use Rattle.std.proofs.lemmas.Bool.Decides.{nat_tests}
use Rattle.std.proofs.lemmas.List.{length-replicate, get_or-replicate, get_or-set_same, get_or-set_other, get_or_past}
use Rattle.tspdef.specs.Sets.{has}
use Rattle.tspdef.specs.Tours.{IsTour, steps, has_step, travelled}
use Rattle.tspdef.specs.Instances.{Instance, dist, length_in}
use Rattle.tspdef.specs.Paths.{Condition, is_absent, is_present, DecidesAll}
use Rattle.tspdef.specs.Closings.{Closing, Fits}
use Rattle.tspdef.specs.Sums.{sum_below, sum_pairs}
use Rattle.tspdef.specs.Bounds.{scale, city_dual, reduced_cost, pair_term, bound, needed}
use Rattle.tspdef.specs.Rays.{HasFew, HasMany, AreStepsOf, large_dual, zero_closing, city_closing, subtour_closing, IsReached}
use Rattle.tspdef.specs.Laws.{RaysClose}
use Rattle.tspdef.proofs.SumLemmas.{sum_below-same, sum_below-zero, sum_below-at, sum_pairs-same, sum_pairs-le, sum_pairs-add, sum_pairs-zero}
use Rattle.tspdef.proofs.Steps.{sum_steps, sum_steps_is, tour_steps_distinct, tour_steps_within}
use Rattle.tspdef.proofs.Duality.{dist-sym}

-- ---- a count, and a sum of as many equal terms

record IsCounted (ones terms : ℤ) (m k : ℕ) : Type 0 where
  pub count : ones ≡ pos k
  pub total : terms ≡ pos (m * k)

counted_below : (q : ℕ → Bool) (m n : ℕ) → (k : ℕ) × IsCounted (sum_below (λ u. cond (q u) (pos 1) (pos 0)) n) (sum_below (λ u. cond (q u) (pos m) (pos 0)) n) m k
counted_below q m zero = (0, record { count = refl; total = omega (arith, ints) })
counted_below q m (suc n) =
    let r = counted_below q m n in
    let c = r.1.count in
    let t = r.1.total in
    ⊎_elim
    (λ y. let a : cond (q n) (pos 1) (pos 0) ≡ pos 1 = cond-true _ _ _ y in
    let b : cond (q n) (pos m) (pos 0) ≡ pos m = cond-true _ _ _ y in
    (suc r.0, record { count = omega (arith, ints); total = omega (arith, ints) }))
    (λ y. let a : cond (q n) (pos 1) (pos 0) ≡ pos 0 = cond-false _ _ _ y in
    let b : cond (q n) (pos m) (pos 0) ≡ pos 0 = cond-false _ _ _ y in
    (r.0, record { count = omega (arith, ints); total = omega (arith, ints) }))
    (cases_Bool (q n))

counted_pairs : (q : ℕ → ℕ → Bool) (m n : ℕ) → (k : ℕ) × IsCounted (sum_pairs (λ u v. cond (q u v) (pos 1) (pos 0)) n) (sum_pairs (λ u v. cond (q u v) (pos m) (pos 0)) n) m k
counted_pairs q m zero = (0, record { count = refl; total = omega (arith, ints) })
counted_pairs q m (suc n) =
    let r = counted_pairs q m n in
    let s = counted_below (λ u. q u n) m n in
    let c = r.1.count in
    let t = r.1.total in
    let d = s.1.count in
    let e = s.1.total in
    (r.0 + s.0, record { count = omega (arith, ints); total = omega (arith, ints) })

-- ---- duals that are 0 but for one city

city_at : (n v k : ℕ) (y : ℤ) → v < n → k < n → get_or (slice_set (replicate n (pos 0)) v y) k (pos 0) ≡ cond (eqb v k) y (pos 0)
city_at n v k y hv hk = ⊎_elim
    (λ e. let l : v < length (replicate n (pos 0)) = subst (λ m. v < m) (sym (length-replicate n (pos 0))) hv in
    subst (λ j. get_or (slice_set (replicate n (pos 0)) v y) j (pos 0) ≡ cond (eqb v j) y (pos 0)) (sym e) (get_or-set_same (replicate n (pos 0)) v y (pos 0) l ∙ sym (cond-true _ _ _ (eq-eqb v v refl))))
    (λ ne. get_or-set_other (replicate n (pos 0)) v k y (pos 0) ne ∙ get_or-replicate n k (pos 0) (pos 0) hk ∙ sym (cond-false _ _ _ (ne_eqb v k (λ e. ne (sym e)))))
    (cases_eq k v)

city_sum : (n v : ℕ) (y : ℤ) → v < n → sum_below (city_dual (city_closing n v y)) n ≡ y
city_sum n v y h = sum_below-same _ (λ k. cond (eqb v k) y (pos 0)) n (λ k l. city_at n v k y h l) ∙ sum_below-at (λ k. y) v n h

no_city : (n k : ℕ) → get_or (replicate n (pos 0)) k (pos 0) ≡ pos 0
no_city n k = ⊎_elim (λ l. get_or-replicate n k (pos 0) (pos 0) l) (λ g. get_or_past (replicate n (pos 0)) k (pos 0) (subst (λ m. m ≤ k) (sym (length-replicate n (pos 0))) g)) (cases_lt k n)

no_city_sum : (n m : ℕ) → sum_below (λ k. get_or (replicate n (pos 0)) k (pos 0)) m ≡ pos 0
no_city_sum n m = sum_below-same _ (λ k. pos 0) m (λ k l. no_city n k) ∙ sum_below-zero m

-- ---- pairs of a path that decides them

decided_term : (p q : Bool) (x y : ℤ) → (q || p) ≡ true → cond p x (cond q (pos 0) y) ≡ cond p x (pos 0)
decided_term true q x y h = refl
decided_term false true x y h = refl
decided_term false false x y h = cc

-- what a city with the large dual takes from a used pair at it
few_term : (p ea eb : Bool) (m s : ℕ) (z : ℤ) → (ea ≡ true → eb ≡ false)
    → z ≡ cond p (pos s -ℤ cond ea (pos m) (pos 0) -ℤ cond eb (pos m) (pos 0) -ℤ pos 0 -ℤ pos 0) (pos 0)
    → pos 0 ≤ℤ (z +ℤ cond (p && (ea || eb)) (pos m) (pos 0))
few_term true true eb m s z h e = let f = h refl in rw (e, f) (omega (arith, ints))
few_term true false true m s z h e = rw e (omega (arith, ints))
few_term true false false m s z h e = rw e (omega (arith, ints))
few_term false ea eb m s z h e = rw e (omega (arith, ints))

many_term : (p ea eb : Bool) (m s : ℕ) (z : ℤ) → (ea ≡ true → eb ≡ false)
    → z ≡ cond p (pos s -ℤ cond ea (neg_ℤ (pos m)) (pos 0) -ℤ cond eb (neg_ℤ (pos m)) (pos 0) -ℤ pos 0 -ℤ pos 0) (pos 0)
    → cond (p && (ea || eb)) (pos m) (pos 0) ≤ℤ z
many_term true true eb m s z h e = let f = h refl in rw (e, f) (omega (arith, ints))
many_term true false true m s z h e = rw e (omega (arith, ints))
many_term true false false m s z h e = rw e (omega (arith, ints))
many_term false ea eb m s z h e = rw e (omega (arith, ints))

not_both : (v a b : ℕ) → a < b → eqb v a ≡ true → eqb v b ≡ false
not_both v a b h e = let x = eqb-true v a e in ne_eqb v b (omega arith)

same_test : (v a b : ℕ) (p : Bool) (m : ℕ) → cond (p && (eqb v a || eqb v b)) (pos m) (pos 0) ≡ cond (p && (eqb a v || eqb b v)) (pos m) (pos 0)
same_test v a b p m = let x = flip v a in let y = flip v b in rw (x, y)
  where
    flip : (x y : ℕ) → eqb x y ≡ eqb y x
    flip x y = grind (arith, nat_tests)

-- the term of a pair under one city's dual
city_term : (i : Instance) (path : List Condition) (v : ℕ) (y : ℤ) → DecidesAll i.n path → v < i.n → (a b : ℕ) → a < b → b < i.n
    → pair_term path (reduced_cost i path (city_closing i.n v y)) a b ≡ cond (is_present path a b) (pos (scale * dist i a b) -ℤ cond (eqb v a) y (pos 0) -ℤ cond (eqb v b) y (pos 0) -ℤ pos 0 -ℤ pos 0) (pos 0)
city_term i path v y all hv a b h l =
    let r = reduced_cost i path (city_closing i.n v y) a b in
    let ca = city_at i.n v a y hv (omega arith) in
    let cb = city_at i.n v b y hv l in
    decided_term (is_present path a b) (is_absent path a b) r _ (all a b h l)
    ∙ ap (λ (x : ℤ). cond (is_present path a b) (pos (scale * dist i a b) -ℤ x -ℤ city_dual (city_closing i.n v y) b -ℤ pos 0 -ℤ pos 0) (pos 0)) ca
    ∙ ap (λ (x : ℤ). cond (is_present path a b) (pos (scale * dist i a b) -ℤ cond (eqb v a) y (pos 0) -ℤ x -ℤ pos 0 -ℤ pos 0) (pos 0)) cb

few_bound : (i : Instance) (path : List Condition) (best v : ℕ) → DecidesAll i.n path → v < i.n → HasFew i.n path v
    → needed best <ℤ (bound i path (city_closing i.n v (pos (large_dual best))))
few_bound i path best v all hv few =
    let m = large_dual best in
    let f = pair_term path (reduced_cost i path (city_closing i.n v (pos m))) in
    let g : ℕ → ℕ → ℤ = λ a b. cond (is_present path a b && (eqb a v || eqb b v)) (pos m) (pos 0) in
    let le = sum_pairs-le (λ a b. pos 0) (λ a b. f a b +ℤ g a b) i.n (λ a b h l.
    subst (λ (z : ℤ). pos 0 ≤ℤ (f a b +ℤ z)) (same_test v a b (is_present path a b) m)
    (few_term (is_present path a b) (eqb v a) (eqb v b) m (scale * dist i a b) (f a b) (not_both v a b h) (city_term i path v (pos m) all hv a b h l))) in
    let z = sum_pairs-zero i.n in
    let add = sum_pairs-add f g i.n in
    let c = counted_pairs (λ a b. is_present path a b && (eqb a v || eqb b v)) m i.n in
    let count = c.1.count in
    let total = c.1.total in
    let one : c.0 ≤ 1 = omega (arith, ints) in
    let most = mul-le-mul_left m one in
    let sum = city_sum i.n v (pos m) hv in
    omega (arith, ints)

many_bound : (i : Instance) (path : List Condition) (best v : ℕ) → DecidesAll i.n path → v < i.n → HasMany i.n path v
    → needed best <ℤ (bound i path (city_closing i.n v (neg_ℤ (pos (large_dual best)))))
many_bound i path best v all hv many =
    let m = large_dual best in
    let y = neg_ℤ (pos m) in
    let f = pair_term path (reduced_cost i path (city_closing i.n v y)) in
    let g : ℕ → ℕ → ℤ = λ a b. cond (is_present path a b && (eqb a v || eqb b v)) (pos m) (pos 0) in
    let le = sum_pairs-le g f i.n (λ a b h l.
    subst (λ (z : ℤ). z ≤ℤ (f a b)) (same_test v a b (is_present path a b) m)
    (many_term (is_present path a b) (eqb v a) (eqb v b) m (scale * dist i a b) (f a b) (not_both v a b h) (city_term i path v y all hv a b h l))) in
    let c = counted_pairs (λ a b. is_present path a b && (eqb a v || eqb b v)) m i.n in
    let count = c.1.count in
    let total = c.1.total in
    let three : 3 ≤ c.0 = omega (arith, ints) in
    let least = mul-le-mul_left m three in
    let sum = city_sum i.n v y hv in
    omega (arith, ints)

-- ---- cycles

cycle_term : (p x y : Bool) (m s : ℕ) (ca cb z : ℤ) → ca ≡ pos 0 → cb ≡ pos 0 → (p ≡ true → x ≡ y)
    → z ≡ cond p (pos s -ℤ ca -ℤ cb -ℤ (pos 0 +ℤ pos (m * (cond (cond x (not y) y) 1 0 + 0))) -ℤ pos 0) (pos 0)
    → pos 0 ≤ℤ z
cycle_term false x y m s ca cb z a b h e = rw e (omega (arith, ints))
cycle_term true true y m s ca cb z a b h e = let f = sym (h refl) in rw (e, f, a, b) (omega (arith, ints))
cycle_term true false y m s ca cb z a b h e = let f = sym (h refl) in rw (e, f, a, b) (omega (arith, ints))

cycle_bound : (i : Instance) (path : List Condition) (best : ℕ) (s : List ℕ) → DecidesAll i.n path → IsReached i.n path s
    → needed best <ℤ (bound i path (subtour_closing i.n s (large_dual best)))
cycle_bound i path best s all reached =
    let m = large_dual best in
    let c = subtour_closing i.n s m in
    let f = pair_term path (reduced_cost i path c) in
    let le = sum_pairs-le (λ a b. pos 0) f i.n (λ a b h l.
    cycle_term (is_present path a b) (has s a) (has s b) m (scale * dist i a b) (city_dual c a) (city_dual c b) (f a b) (no_city i.n a) (no_city i.n b) (reached.closed a b h l)
    (decided_term (is_present path a b) (is_absent path a b) (reduced_cost i path c a b) _ (all a b h l))) in
    let z = sum_pairs-zero i.n in
    let sum = no_city_sum i.n i.n in
    omega (arith, ints)

-- ---- tours

scaled_steps : (i : Instance) (es : List (ℕ × ℕ)) → sum_steps (λ u v. pos (scale * dist i u v)) es ≡ pos (scale * travelled (dist i) es)
scaled_steps i [] = refl
scaled_steps i (e ∷ es) = let ih = scaled_steps i es in omega (arith, ints)

tour_term : (p : Bool) (s : ℕ) (ca cb : ℤ) → ca ≡ pos 0 → cb ≡ pos 0 → cond p (pos s -ℤ ca -ℤ cb -ℤ pos 0 -ℤ pos 0) (pos 0) ≡ cond p (pos s) (pos 0)
tour_term p s ca cb a b = let e : (pos s -ℤ ca -ℤ cb -ℤ pos 0 -ℤ pos 0) ≡ pos s = omega (arith, ints) in ap (λ x. cond p x (pos 0)) e

tour_bound : (i : Instance) (path : List Condition) (best : ℕ) (tour : List ℕ) → 3 ≤ i.n → DecidesAll i.n path → IsTour i.n tour → AreStepsOf i.n path tour
    → best ≤ length_in i tour → needed best <ℤ (bound i path (zero_closing i.n))
tour_bound i path best tour h all is used short =
    let c = zero_closing i.n in
    let f = pair_term path (reduced_cost i path c) in
    let g : ℕ → ℕ → ℤ = λ u v. pos (scale * dist i u v) in
    let es = steps tour in
    let same = sum_pairs-same f (λ u v. cond (has_step es u v) (g u v) (pos 0)) i.n (λ a b k l.
    decided_term (is_present path a b) (is_absent path a b) (reduced_cost i path c a b) _ (all a b k l)
    ∙ tour_term (is_present path a b) (scale * dist i a b) (city_dual c a) (city_dual c b) (no_city i.n a) (no_city i.n b)
    ∙ ap (λ p. cond p (g a b) (pos 0)) (used a b k l)) in
    let steps_sum = sum_steps_is g (λ u v. ap (λ k. pos (scale * k)) (dist-sym i u v)) i.n es (tour_steps_within i.n tour h is) (tour_steps_distinct i.n tour h is) in
    let long = scaled_steps i es in
    let sum = no_city_sum i.n i.n in
    omega (arith, ints)

-- ---- sizes

all_zero : (n : ℕ) → AllByRecursion (λ y. nat_abs y ≤ 2 ^ 62) (replicate n (pos 0))
all_zero zero = tt
all_zero (suc n) = (omega arith, all_zero n)

all_set : (xs : List ℤ) (v : ℕ) (y : ℤ) → nat_abs y ≤ 2 ^ 62 → AllByRecursion (λ y. nat_abs y ≤ 2 ^ 62) xs → AllByRecursion (λ y. nat_abs y ≤ 2 ^ 62) (slice_set xs v y)
all_set [] v y h a = tt
all_set (x ∷ xs) zero y h a = (h, a.1)
all_set (x ∷ xs) (suc v) y h a = (a.0, all_set xs v y h a.1)

neg_size : (m : ℕ) → nat_abs (neg_ℤ (pos m)) ≡ m
neg_size zero = refl
neg_size (suc m) = refl

city_fits : (n : ℕ) (path : List Condition) (v : ℕ) (y : ℤ) → nat_abs y ≤ 2 ^ 62 → Fits n path (city_closing n v y)
city_fits n path v y h = record {
  counts = record { city = length-set (replicate n (pos 0)) v y ∙ length-replicate n (pos 0); cuts = omega arith; conds = omega arith };
  sizes = record { city = all_set (replicate n (pos 0)) v y h (all_zero n); cuts = tt; conds = tt };
  cuts = record { cuts = tt; rising = tt };
  depths = record { rising = tt; cliques = tt };
}

zero_fits : (n : ℕ) (path : List Condition) → Fits n path (zero_closing n)
zero_fits n path = record {
  counts = record { city = length-replicate n (pos 0); cuts = omega arith; conds = omega arith };
  sizes = record { city = all_zero n; cuts = tt; conds = tt };
  cuts = record { cuts = tt; rising = tt };
  depths = record { rising = tt; cliques = tt };
}

some_city : (s : List ℕ) (c : ℕ) → has s c ≡ true → 0 < length s
some_city [] c h = cc
some_city (x ∷ xs) c h = omega arith

cycle_fits : (n : ℕ) (path : List Condition) (s : List ℕ) (y : ℕ) → IsReached n path s → length s < n → 1 ≤ y → y ≤ 2 ^ 62 → Fits n path (subtour_closing n s y)
cycle_fits n path s y reached l one most = record {
  counts = record { city = length-replicate n (pos 0); cuts = omega arith; conds = omega arith };
  sizes = record { city = all_zero n; cuts = ((one, most), tt); conds = tt };
  cuts = record { cuts = ((refl, record { set = reached.set; some = some_city s 0 reached.home; not_all = l }), tt); rising = tt };
  depths = record { rising = tt; cliques = tt };
}

large_within : (best : ℕ) → best < 2 ^ 42 → (1 ≤ large_dual best) × (large_dual best ≤ 2 ^ 62)
large_within best h = (omega arith, omega arith)

pub rays_close : RaysClose
rays_close i path best c h small all premise ray =
    let big = large_within best small in ⊎_elim
    (λ (v, few). subst (λ (k : Closing). Fits i.n path k × (needed best <ℤ (bound i path k))) (sym few.closing)
    (city_fits i.n path v (pos (large_dual best)) big.1, few_bound i path best v all few.city few.few))
    (λ other. ⊎_elim
    (λ (v, many). subst (λ (k : Closing). Fits i.n path k × (needed best <ℤ (bound i path k))) (sym many.closing)
    (city_fits i.n path v (neg_ℤ (pos (large_dual best))) (subst (λ k. k ≤ 2 ^ 62) (sym (neg_size (large_dual best))) big.1), many_bound i path best v all many.city many.many))
    (λ rest. ⊎_elim
    (λ (s, cycle). subst (λ (k : Closing). Fits i.n path k × (needed best <ℤ (bound i path k))) (sym cycle.closing)
    (cycle_fits i.n path s (large_dual best) cycle.reached cycle.not_all big.0 big.1, cycle_bound i path best s all cycle.reached))
    (λ (tour, is). subst (λ (k : Closing). Fits i.n path k × (needed best <ℤ (bound i path k))) (sym is.closing)
    (zero_fits i.n path, tour_bound i path best tour h all is.is_tour is.used (premise tour is.is_tour is.used)))
    rest)
    other)
    ray
