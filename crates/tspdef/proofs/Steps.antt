use Rattle.std.proofs.Common.{◌≡◌, ℕ, zero, suc, ◌<◌, ◌≤◌, Bool, true, false, cond, eqb, ◌||◌, List, [], ◌∷◌, length, refl, sym, ◌∙◌, ap, subst, arith, ◌⊎◌, ⊎_elim}
use Rattle.std.specs.Prelude.{ℤ, pos, ◌+ℤ◌, ◌≤ℤ◌}
use Rattle.std.specs.List.{AllByRecursion}
use Rattle.std.proofs.lemmas.Int.{ints}
use Rattle.std.proofs.lemmas.Bool.{cases_lt, cond-true, cond-false, or_parts, eqb-false, eqb-true, cond_both, true_from_ne_false}
use Rattle.std.proofs.lemmas.Bool.Decides.{nat_tests}
use Rattle.tspdef.specs.Sets.{has}
use Rattle.tspdef.specs.Tours.{joins, walk, steps, AreDistinct, IsTour, has_step}
use Rattle.tspdef.specs.Sums.{sum_below, sum_pairs}
use Rattle.tspdef.proofs.SumLemmas.{sum_below-same, sum_below-add, sum_below-zero, sum_below-at, sum_pairs-same, sum_pairs-add, sum_pairs-zero, sum_pairs-at}

abbrev pub sum_steps : (ℕ → ℕ → ℤ) → List (ℕ × ℕ) → ℤ
sum_steps f [] = pos 0
sum_steps f (e ∷ es) = f e.0 e.1 +ℤ sum_steps f es

abbrev pub AreDistinctSteps : List (ℕ × ℕ) → Type 0
AreDistinctSteps [] = Unit {0}
AreDistinctSteps (e ∷ es) = (has_step es e.0 e.1 ≡ false) × AreDistinctSteps es

abbrev pub AreWithin : ℕ → List (ℕ × ℕ) → Type 0
AreWithin n [] = Unit {0}
AreWithin n (e ∷ es) = ((e.0 < n) × ((e.1 < n) × (e.0 ≡ e.1 → ⊥))) × AreWithin n es

-- ---- the pairs that a step is

joins_swap : (a b u v : ℕ) → joins u v (a, b) ≡ joins v u (a, b)
joins_swap a b u v = grind (arith, nat_tests)

pub joins_is : (a b u v : ℕ) → joins u v (a, b) ≡ true → ((a ≡ u) × (b ≡ v)) ⊎ ((a ≡ v) × (b ≡ u))
joins_is a b u v h = grind (arith, nat_tests)

pub has_step_swap : (es : List (ℕ × ℕ)) (u v : ℕ) → has_step es u v ≡ has_step es v u
has_step_swap [] u v = refl
has_step_swap (e ∷ es) u v = let ih = has_step_swap es u v in let j = joins_swap e.0 e.1 u v in cc

-- a step is known by its pair
pub has_step_at : (es : List (ℕ × ℕ)) (a b u v : ℕ) → joins u v (a, b) ≡ true → has_step es u v ≡ has_step es a b
has_step_at es a b u v h = ⊎_elim
    (λ p. let x = p.0 in let y = p.1 in cc)
    (λ p. let x = p.0 in let y = p.1 in let s = has_step_swap es u v in cc)
    (joins_is a b u v h)

split_or : (x : ℤ) (s t : Bool) → (s ≡ true → t ≡ false) → cond (s || t) x (pos 0) ≡ cond s x (pos 0) +ℤ cond t x (pos 0)
split_or x true t h = let e = h refl in rw e (omega (arith, ints))
split_or x false t h = omega (arith, ints)

-- a sum over distinct steps is one over all pairs
pub sum_steps_is : (f : ℕ → ℕ → ℤ) (sym_f : (u v : ℕ) → f u v ≡ f v u) (n : ℕ) (es : List (ℕ × ℕ)) → AreWithin n es → AreDistinctSteps es
    → sum_pairs (λ u v. cond (has_step es u v) (f u v) (pos 0)) n ≡ sum_steps f es
sum_steps_is f sym_f n [] w k = sum_pairs-zero n
sum_steps_is f sym_f n (e ∷ es) w k =
    let ih = sum_steps_is f sym_f n es w.1 k.1 in
    let one = sum_pairs-at f sym_f e.0 e.1 n w.0.1.1 w.0.0 w.0.1.0 in
    let split = sum_pairs-same (λ u v. cond (joins u v e || has_step es u v) (f u v) (pos 0)) (λ u v. cond (joins u v e) (f u v) (pos 0) +ℤ cond (has_step es u v) (f u v) (pos 0)) n
    (λ u v q r. split_or (f u v) (joins u v e) (has_step es u v) (λ j. has_step_at es e.0 e.1 u v j ∙ k.0)) in
    let add = sum_pairs-add (λ u v. cond (joins u v e) (f u v) (pos 0)) (λ u v. cond (has_step es u v) (f u v) (pos 0)) n in
    omega (arith, ints)

-- ---- the steps of a tour

-- what is not in a list
pub lacks : (a : ℕ) (bs : List ℕ) (x : ℕ) → has (a ∷ bs) x ≡ false → (a ≡ x → ⊥) × (has bs x ≡ false)
lacks a bs x h = let p = or_parts (eqb a x) (has bs x) h in (eqb-false a x p.0, p.1)

no_step : (home a : ℕ) (bs : List ℕ) (x y : ℕ) → (home ≡ x → ⊥) → has (a ∷ bs) x ≡ false → has_step (walk home a bs) x y ≡ false
no_step home a [] x y nh h = let p = lacks a [] x h in grind (arith, nat_tests)
no_step home a (b ∷ bs) x y nh h =
    let p = lacks a (b ∷ bs) x h in
    let q = lacks b bs x p.1 in
    let ih = no_step home b bs x y nh p.1 in
    grind (arith, nat_tests)

walk_distinct : (home a : ℕ) (bs : List ℕ) → has (a ∷ bs) home ≡ false → AreDistinct (a ∷ bs) → AreDistinctSteps (walk home a bs)
walk_distinct home a [] h k = (refl, tt)
walk_distinct home a (b ∷ bs) h k =
    let p = lacks a (b ∷ bs) home h in
    (no_step home b bs a b (λ e. p.0 (sym e)) k.0, walk_distinct home b bs p.1 k.1)

walk_within : (n home a : ℕ) (bs : List ℕ) → home < n → AllByRecursion (λ c. c < n) (a ∷ bs) → has (a ∷ bs) home ≡ false → AreDistinct (a ∷ bs) → AreWithin n (walk home a bs)
walk_within n home a [] hn al h k = ((al.0, (hn, (lacks a [] home h).0)), tt)
walk_within n home a (b ∷ bs) hn al h k =
    let p = lacks a (b ∷ bs) home h in
    let q = lacks b bs a k.0 in
    ((al.0, (al.1.0, λ e. q.0 (sym e))), walk_within n home b bs hn al.1 p.1 k.1)

pub tour_steps_distinct : (n : ℕ) (tour : List ℕ) → 3 ≤ n → IsTour n tour → AreDistinctSteps (steps tour)
tour_steps_distinct n [] h t = tt
tour_steps_distinct n (a ∷ []) h t = (refl, tt)
tour_steps_distinct n (a ∷ b ∷ []) h t = let l = t.all in absurd (omega arith)
tour_steps_distinct n (a ∷ b ∷ c ∷ ds) h t =
    let k = t.distinct in
    let p = lacks b (c ∷ ds) a k.0 in
    let q = lacks c ds b k.1.0 in
    let r = lacks c ds a p.1 in
    let deep : has_step (walk a c ds) a b ≡ false = has_step_swap (walk a c ds) a b ∙ no_step a c ds b a (λ e. p.0 (sym e)) k.1.0 in
    let here : joins a b (b, c) ≡ false = grind (arith, nat_tests) in
    let first : has_step (walk a b (c ∷ ds)) a b ≡ false = grind (arith, nat_tests) in
    (first, walk_distinct a b (c ∷ ds) k.0 k.1)

pub tour_steps_within : (n : ℕ) (tour : List ℕ) → 3 ≤ n → IsTour n tour → AreWithin n (steps tour)
tour_steps_within n [] h t = tt
tour_steps_within n (a ∷ []) h t = let l = t.all in absurd (omega arith)
tour_steps_within n (a ∷ b ∷ cs) h t =
    let k = t.distinct in
    let p = lacks b cs a k.0 in
    ((t.below.0, (t.below.1.0, λ e. p.0 (sym e))), walk_within n a b cs t.below.0 t.below.1 k.0 k.1)

-- ---- a sum over the cities of a tour

abbrev pub sum_list : (ℕ → ℤ) → List ℕ → ℤ
sum_list f [] = pos 0
sum_list f (x ∷ xs) = f x +ℤ sum_list f xs

same_city : (a k : ℕ) (xs : List ℕ) → has xs a ≡ false → eqb a k ≡ true → has xs k ≡ false
same_city a k xs h e = subst (λ c. has xs c ≡ false) (eqb-true a k e) h

pub sum_list_is : (f : ℕ → ℤ) (n : ℕ) (xs : List ℕ) → AllByRecursion (λ c. c < n) xs → AreDistinct xs → sum_below (λ k. cond (has xs k) (f k) (pos 0)) n ≡ sum_list f xs
sum_list_is f n [] al k = sum_below-zero n
sum_list_is f n (x ∷ xs) al k =
    let ih = sum_list_is f n xs al.1 k.1 in
    let one = sum_below-at f x n al.0 in
    let split = sum_below-same (λ c. cond (eqb x c || has xs c) (f c) (pos 0)) (λ c. cond (eqb x c) (f c) (pos 0) +ℤ cond (has xs c) (f c) (pos 0)) n
    (λ c q. split_or (f c) (eqb x c) (has xs c) (same_city x c xs k.0)) in
    let add = sum_below-add (λ c. cond (eqb x c) (f c) (pos 0)) (λ c. cond (has xs c) (f c) (pos 0)) n in
    omega (arith, ints)

pub count_le : (p : ℕ → Bool) (n : ℕ) → sum_below (λ k. cond (p k) (pos 1) (pos 0)) n ≤ℤ pos n
count_le p zero = omega (arith, ints)
count_le p (suc n) =
    let ih = count_le p n in
    let one : cond (p n) (pos 1) (pos 0) ≤ℤ pos 1 = cond_both (p n) (pos 1) (pos 0) (λ x. x ≤ℤ pos 1) (λ e. omega (arith, ints)) (λ e. omega (arith, ints)) in
    omega (arith, ints)

-- a count of n among n has all of them
full : (p : ℕ → Bool) (n : ℕ) → sum_below (λ k. cond (p k) (pos 1) (pos 0)) n ≡ pos n → (k : ℕ) → k < n → p k ≡ true
full p zero h k l = absurd (omega arith)
full p (suc n) h k l =
    let rest = count_le p n in
    let here : p n ≡ true = true_from_ne_false (p n) (λ e.
    let z : cond (p n) (pos 1) (pos 0) ≡ pos 0 = cond-false _ _ _ e in omega (arith, ints)) in
    let one : cond (p n) (pos 1) (pos 0) ≡ pos 1 = cond-true _ _ _ here in
    ⊎_elim (λ m. full p n (omega (arith, ints)) k m) (λ m. let e : n ≡ k = omega arith in subst (λ c. p c ≡ true) e here) (cases_lt k n)

pub ones : (xs : List ℕ) → sum_list (λ k. pos 1) xs ≡ pos (length xs)
ones [] = refl
ones (x ∷ xs) = let ih = ones xs in omega (arith, ints)

pub tour_has : (n : ℕ) (tour : List ℕ) → IsTour n tour → (k : ℕ) → k < n → has tour k ≡ true
tour_has n tour t =
    let one = sum_list_is (λ k. pos 1) n tour t.below t.distinct in
    let o = ones tour in
    let l = t.all in
    full (has tour) n (one ∙ o ∙ ap pos l)

pub tour_sum : (f : ℕ → ℤ) (n : ℕ) (tour : List ℕ) → IsTour n tour → sum_list f tour ≡ sum_below f n
tour_sum f n tour t =
    let is = sum_list_is f n tour t.below t.distinct in
    let all = sum_below-same (λ k. cond (has tour k) (f k) (pos 0)) f n (λ k l. cond-true _ _ _ (tour_has n tour t k l)) in
    sym is ∙ all

walk_ends : (f : ℕ → ℤ) (home a : ℕ) (bs : List ℕ) → sum_steps (λ u v. f u +ℤ f v) (walk home a bs) ≡ sum_list f (a ∷ bs) +ℤ (sum_list f bs +ℤ f home)
walk_ends f home a [] = omega (arith, ints)
walk_ends f home a (b ∷ bs) = let ih = walk_ends f home b bs in omega (arith, ints)

-- each city is an end of two steps
pub tour_ends : (f : ℕ → ℤ) (n : ℕ) (tour : List ℕ) → IsTour n tour → sum_steps (λ u v. f u +ℤ f v) (steps tour) ≡ sum_below f n +ℤ sum_below f n
tour_ends f n [] t = let s = tour_sum f n [] t in omega (arith, ints)
tour_ends f n (a ∷ bs) t = let s = tour_sum f n (a ∷ bs) t in let e = walk_ends f a a bs in omega (arith, ints)
