use Rattle.std.proofs.Common.{◌≡◌, ℕ, ◌+◌, ◌*◌, ◌<◌, ◌≤◌, Bool, true, false, cond, eqb, not, ◌||◌, ◌&&◌, List, [], ◌∷◌, length, refl, sym, ◌∙◌, ap, arith, add-one, ⊎_elim}
use Rattle.std.specs.Prelude.{ℤ, pos, ◌+ℤ◌, ◌≤ℤ◌}
use Rattle.std.specs.List.{AllByRecursion}
use Rattle.std.proofs.lemmas.Int.{ints}
use Rattle.std.proofs.lemmas.Bool.{cases_Bool, cases_eq, cond-true, cond-false, eq-eqb, ne_eqb, eqb-true, or_parts, and_parts, false_from_ne_true}
use Rattle.tspdef.specs.Tours.{joins, walk, steps, crosses, crossings, IsTour, has_step, travelled}
use Rattle.tspdef.specs.Sums.{sum_below}
use Rattle.tspdef.specs.Instances.{Instance, dist}
use Rattle.tspdef.specs.Bounds.{scale}
use Rattle.tspdef.proofs.SumLemmas.{sum_below-at}
use Rattle.tspdef.proofs.Steps.{sum_steps, AreDistinctSteps, AreWithin, has_step_at, tour_steps_distinct, tour_steps_within, tour_has, tour_ends}
use Rattle.tspdef.proofs.CrossingLemmas.{tour_crosses}
use Rattle.onetree.specs.OneTrees.{is_end, degree, times_joined, elsewhere, IsPair, Connects, weight, dual_of, reduced, IsHeldKarp}
use Rattle.onetree.specs.Laws.{ToursAreOneTrees, ToursMeetTwice, HeldKarpIsBelow, NoTourIsShorter, HeldKarpIsOne}

-- ---- the steps of a tour are pairs, and n of them

pairs_within : (n : ℕ) (es : List (ℕ × ℕ)) → AreWithin n es → AllByRecursion (IsPair n) es
pairs_within n [] w = tt
pairs_within n (e ∷ es) w = ((w.0.0, w.0.1.0, w.0.1.1), pairs_within n es w.1)

walk_length : (home a : ℕ) (bs : List ℕ) → length (walk home a bs) ≡ 1 + length bs
walk_length home a [] = refl
walk_length home a (b ∷ bs) = let ih = walk_length home b bs in omega arith

steps_length : (tour : List ℕ) → length (steps tour) ≡ length tour
steps_length [] = refl
steps_length (a ∷ bs) = let e = walk_length a a bs in omega arith

-- ---- degrees

abbrev mark : ℕ → ℕ → ℤ
mark c k = cond (eqb c k) (pos 1) (pos 0)

one_end : (x y c : ℕ) → (x ≡ y → ⊥) → mark c x +ℤ mark c y ≡ pos (cond (eqb x c || eqb y c) 1 0)
one_end x y c ne = ⊎_elim
    (λ e. let a = eq-eqb c x e in let b = eq-eqb x c (sym e) in let d = ne_eqb c y (λ f. ne (sym e ∙ f)) in rw (a, b, d) refl)
    (λ e. let a = ne_eqb c x e in let b = ne_eqb x c (λ f. e (sym f)) in ⊎_elim
    (λ f. let d = eq-eqb c y f in let g = eq-eqb y c (sym f) in rw (a, b, d, g) refl)
    (λ f. let d = ne_eqb c y f in let g = ne_eqb y c (λ h. f (sym h)) in rw (a, b, d, g) refl)
    (cases_eq c y))
    (cases_eq c x)

degree_sum : (c n : ℕ) (es : List (ℕ × ℕ)) → AreWithin n es → sum_steps (λ u v. mark c u +ℤ mark c v) es ≡ pos (degree c es)
degree_sum c n [] w = refl
degree_sum c n (e ∷ es) w =
    let ih = degree_sum c n es w.1 in
    let here = one_end e.0 e.1 c w.0.1.1 in
    omega (arith, ints)

pub tours_meet_twice : ToursMeetTwice
tours_meet_twice n tour c h t l =
    let es = steps tour in
    let sum = degree_sum c n es (tour_steps_within n tour h t) in
    let ends = tour_ends (mark c) n tour t in
    let one = sum_below-at (λ k. pos 1) c n l in
    omega (arith, ints)

-- ---- no two steps join the same cities

joined_none : (u v : ℕ) (es : List (ℕ × ℕ)) → has_step es u v ≡ false → times_joined u v es ≡ 0
joined_none u v [] h = refl
joined_none u v (e ∷ es) h =
    let p = or_parts (joins u v e) (has_step es u v) h in
    let ih = joined_none u v es p.1 in
    let here : cond {A = ℕ} (joins u v e) 1 0 ≡ 0 = cond-false _ _ _ p.0 in
    omega arith

joined_once : (u v : ℕ) (es : List (ℕ × ℕ)) → AreDistinctSteps es → times_joined u v es ≤ 1
joined_once u v [] d = omega arith
joined_once u v (e ∷ es) d = ⊎_elim
    (λ j. let none = joined_none u v es (has_step_at es e.0 e.1 u v j ∙ d.0) in
    let here : cond {A = ℕ} (joins u v e) 1 0 ≡ 1 = cond-true _ _ _ j in
    omega arith)
    (λ j. let ih = joined_once u v es d.1 in
    let here : cond {A = ℕ} (joins u v e) 1 0 ≡ 0 = cond-false _ _ _ j in
    omega arith)
    (cases_Bool (joins u v e))

-- ---- the steps away from city 0 connect the others

-- the set with city 0 put on one side
abbrev sided : Bool → (ℕ → Bool) → ℕ → Bool
sided b s k = cond (eqb k 0) b (s k)

-- A pair at city 0 crosses one of the two sets in which city 0 is on one side and on the other; another pair crosses both or none.
sides_step : (x y : Bool) (p q : Bool) → (p && q) ≡ false
    → cond (cond (cond p true x) (not (cond q true y)) (cond q true y)) 1 0 + cond (cond (cond p false x) (not (cond q false y)) (cond q false y)) 1 0
    ≡ cond (p || q) 1 (2 * cond (cond x (not y) y) 1 0)
sides_step x y p q h = grind arith

sides : (n : ℕ) (s : ℕ → Bool) (es : List (ℕ × ℕ)) → AreWithin n es
    → crossings (sided true s) es + crossings (sided false s) es ≡ degree 0 es + 2 * crossings s (elsewhere es)
sides n s [] w = refl
sides n s (e ∷ es) w =
    let ih = sides n s es w.1 in
    let apart : (eqb e.0 0 && eqb e.1 0) ≡ false = false_from_ne_true _ (λ h. let p = and_parts _ _ h in w.0.1.1 (eqb-true e.0 0 p.0 ∙ sym (eqb-true e.1 0 p.1))) in
    let here = sides_step (s e.0) (s e.1) (eqb e.0 0) (eqb e.1 0) apart in
    ⊎_elim
    (λ j. let a : cond {A = ℕ} (is_end 0 e) 1 0 ≡ 1 = cond-true _ _ _ j in
    let b : cond {A = ℕ} (is_end 0 e) 1 (2 * cond (crosses s e) 1 0) ≡ 1 = cond-true _ _ _ j in
    let d : elsewhere (e ∷ es) ≡ elsewhere es = cond-true _ _ _ j in
    let f = ap (crossings s) d in
    omega arith)
    (λ j. let a : cond {A = ℕ} (is_end 0 e) 1 0 ≡ 0 = cond-false _ _ _ j in
    let b : cond {A = ℕ} (is_end 0 e) 1 (2 * cond (crosses s e) 1 0) ≡ 2 * cond (crosses s e) 1 0 = cond-false _ _ _ j in
    let d : elsewhere (e ∷ es) ≡ e ∷ elsewhere es = cond-false _ _ _ j in
    let f = ap (crossings s) d in
    omega arith)
    (cases_Bool (is_end 0 e))

sided_at : (b : Bool) (s : ℕ → Bool) (k : ℕ) → 0 < k → sided b s k ≡ s k
sided_at b s k h = cond-false _ _ _ (ne_eqb k 0 (omega arith))

tour_parted : (n : ℕ) (tour : List ℕ) → 3 ≤ n → IsTour n tour → (s : ℕ → Bool) (u v : ℕ) → 0 < u → u < n → 0 < v → v < n → s u ≡ true → s v ≡ false → crossings s (elsewhere (steps tour)) ≡ 0 → ⊥
tour_parted n tour h t s u v u0 un v0 vn su sv none =
    let both = sides n s (steps tour) (tour_steps_within n tour h t) in
    let two = tours_meet_twice n tour 0 h t (omega arith) in
    let hu = tour_has n tour t u un in
    let hv = tour_has n tour t v vn in
    let on = tour_crosses (sided true s) tour u v hu hv (sided_at true s u u0 ∙ su) (sided_at true s v v0 ∙ sv) in
    let off = tour_crosses (sided false s) tour u v hu hv (sided_at false s u u0 ∙ su) (sided_at false s v v0 ∙ sv) in
    omega arith

tour_connects : (n : ℕ) (tour : List ℕ) → 3 ≤ n → IsTour n tour → Connects n (elsewhere (steps tour))
tour_connects n tour h t s none u v u0 un v0 vn = ⊎_elim
    (λ su. ⊎_elim (λ sv. su ∙ sym sv) (λ sv. absurd (tour_parted n tour h t s u v u0 un v0 vn su sv none)) (cases_Bool (s v)))
    (λ su. ⊎_elim (λ sv. absurd (tour_parted n tour h t s v u v0 vn u0 un sv su none)) (λ sv. su ∙ sym sv) (cases_Bool (s v)))
    (cases_Bool (s u))

pub tours_are_one_trees : ToursAreOneTrees
tours_are_one_trees n tour h t = record {
  within = pairs_within n (steps tour) (tour_steps_within n tour h t);
  all = steps_length tour ∙ t.all;
  two = tours_meet_twice n tour 0 h t (omega arith);
  different = λ v. joined_once 0 v (steps tour) (tour_steps_distinct n tour h t);
  spans = tour_connects n tour h t;
}

-- ---- the value is below

steps_weight : (i : Instance) (p : List ℤ) (es : List (ℕ × ℕ)) → weight (reduced i p) es +ℤ sum_steps (λ u v. dual_of p u +ℤ dual_of p v) es ≡ pos (scale * travelled (dist i) es)
steps_weight i p [] = refl
steps_weight i p (e ∷ es) = let ih = steps_weight i p es in omega (arith, ints)

pub below_each_tour : (i : Instance) (p : List ℤ) (h : ℤ) (tour : List ℕ) → 3 ≤ i.n → IsTour i.n tour → IsHeldKarp i p h → h ≤ℤ pos (scale * travelled (dist i) (steps tour))
below_each_tour i p h tour many t (w, least, is) =
    let below = least.1 (steps tour) (tours_are_one_trees i.n tour many t) in
    let all = steps_weight i p (steps tour) in
    let ends = tour_ends (dual_of p) i.n tour t in
    omega (arith, ints)

pub steps_of : (n : ℕ) (tour : List ℕ) → IsTour n tour → length (steps tour) ≡ n
steps_of n tour t = steps_length tour ∙ t.all

pub held_karp_is_below : HeldKarpIsBelow
held_karp_is_below i p h tour many t (w, least, is) =
    let below = least.1 (steps tour) (tours_are_one_trees i.n tour many t.is_tour) in
    let all = steps_weight i p (steps tour) in
    let ends = tour_ends (dual_of p) i.n tour t.is_tour in
    omega (arith, ints)

pub held_karp_is_one : HeldKarpIsOne
held_karp_is_one i p h k (w, (one, low), is) (x, (other, below), so) =
    let a = low other.0 other.1 in
    let b = below one.0 one.1 in
    let e = one.2 in
    let f = other.2 in
    omega (arith, ints)

pub no_tour_is_shorter : NoTourIsShorter
no_tour_is_shorter i p h b tour many t is l = let low = held_karp_is_below i p h tour many t is in omega (arith, ints)

-- ---- sums of duals

pub sum_more : (f : ℕ → ℤ) (k : ℕ) → sum_below f (k + 1) ≡ sum_below f k +ℤ f k
sum_more f k = rw add-one refl
