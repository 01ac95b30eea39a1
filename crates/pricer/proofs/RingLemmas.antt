-- A graph in which every city has two neighbours, and all are reached from city 0, is a tour.
use Rattle.std.proofs.Common.{◌≡◌, ℕ, zero, suc, ◌+◌, ◌-◌, ◌++◌, ◌<◌, ◌≤◌, Bool, true, false, cond, eqb, ◌&&◌, ◌||◌, not, List, [], ◌∷◌, length, refl, sym, ◌∙◌, ap, subst, arith, ◌⊎◌, inl, inr, ⊎_elim}
use Rattle.std.specs.Prelude.{ℤ, pos, ◌+ℤ◌, ◌≤ℤ◌}
use Rattle.std.specs.List.{AllByRecursion}
use Rattle.std.proofs.lemmas.Int.{ints}
use Rattle.std.proofs.lemmas.Bool.{cases_lt, cases_eq, cases_Bool, or_cases, or_left, or_right, or_from, eqb-true, eq-eqb, ne_eqb, cond-true, cond-false, true_from_ne_false}
use Rattle.std.proofs.lemmas.Bool.Decides.{nat_tests}
use Rattle.tspdef.specs.Sets.{has, RisesFrom, IsSet}
use Rattle.tspdef.specs.Tours.{joins, walk, steps, has_step, AreDistinct, IsTour}
use Rattle.tspdef.specs.Paths.{Condition, fixed, absent, present, two, four, is_present, ContinuesPath, IsPath}
use Rattle.tspdef.specs.Sums.{sum_below, sum_pairs}
use Rattle.tspdef.specs.Rays.{degree, IsReached, AreStepsOf}
use Rattle.tspdef.proofs.SumLemmas.{sum_below-le, sum_below-add, sum_below-at, sum_below-same, sum_pairs-same, sum_pairs-zero}
use Rattle.tspdef.proofs.Steps.{sum_list_is, ones, lacks, joins_is, has_step_swap, tour_has}
use Rattle.pricer.proofs.DecidedLemmas.{is_present-swap}

-- ---- the neighbours of a city

-- how many cities p joins to x
abbrev neighbours : (ℕ → ℕ → Bool) → ℕ → ℕ → ℤ
neighbours p n x = sum_below (λ y. cond (p x y) (pos 1) (pos 0)) n

three_at : (y z w k : ℕ) (b : Bool) → (y ≡ z → ⊥) → (y ≡ w → ⊥) → (z ≡ w → ⊥) → (eqb y k ≡ true → b ≡ true) → (eqb z k ≡ true → b ≡ true) → (eqb w k ≡ true → b ≡ true)
    → (cond (eqb y k) (pos 1) (pos 0) +ℤ (cond (eqb z k) (pos 1) (pos 0) +ℤ cond (eqb w k) (pos 1) (pos 0))) ≤ℤ (cond b (pos 1) (pos 0))
three_at y z w k b n1 n2 n3 h1 h2 h3 = grind (arith, ints, nat_tests)

at_one : (q : ℕ → Bool) (y k : ℕ) → q y ≡ true → eqb y k ≡ true → q k ≡ true
at_one q y k h e = subst (λ c. q c ≡ true) (eqb-true y k e) h

-- three that pass are at least three
three : (q : ℕ → Bool) (n y z w : ℕ) → y < n → z < n → w < n → (y ≡ z → ⊥) → (y ≡ w → ⊥) → (z ≡ w → ⊥) → q y ≡ true → q z ≡ true → q w ≡ true
    → pos 3 ≤ℤ (sum_below (λ k. cond (q k) (pos 1) (pos 0)) n)
three q n y z w ly lz lw n1 n2 n3 hy hz hw =
    let f : ℕ → ℤ = λ k. cond (eqb y k) (pos 1) (pos 0) in
    let g : ℕ → ℤ = λ k. cond (eqb z k) (pos 1) (pos 0) in
    let h : ℕ → ℤ = λ k. cond (eqb w k) (pos 1) (pos 0) in
    let all = sum_below-le (λ k. f k +ℤ (g k +ℤ h k)) (λ k. cond (q k) (pos 1) (pos 0)) n (λ k l. three_at y z w k (q k) n1 n2 n3 (at_one q y k hy) (at_one q z k hz) (at_one q w k hw)) in
    let s1 = sum_below-add f (λ k. g k +ℤ h k) n in
    let s2 = sum_below-add g h n in
    let a = sum_below-at (λ k. pos 1) y n ly in
    let b = sum_below-at (λ k. pos 1) z n lz in
    let c = sum_below-at (λ k. pos 1) w n lw in
    omega (arith, ints)

-- some other one passes, or none
other : (q : ℕ → Bool) (y n : ℕ) → ((z : ℕ) × ((z < n) × ((z ≡ y → ⊥) × (q z ≡ true)))) ⊎ ((z : ℕ) → z < n → q z ≡ true → z ≡ y)
other q y zero = inr (λ z l h. absurd (omega arith))
other q y (suc n) = ⊎_elim
    (λ o. inl (o.0, (let l = o.1.0 in omega arith, o.1.1)))
    (λ none. ⊎_elim
    (λ e. inr (λ z l h. ⊎_elim (λ m. none z m h) (λ m. omega arith) (cases_lt z n)))
    (λ ne. ⊎_elim
    (λ t. inl (n, (omega arith, (ne, t))))
    (λ f. inr (λ z l h. ⊎_elim (λ m. none z m h) (λ m. let e : z ≡ n = omega arith in let b = subst (λ c. q c ≡ true) e h in cc) (cases_lt z n)))
    (cases_Bool (q n)))
    (cases_eq n y))
    (other q y n)

one_at : (y k : ℕ) (b : Bool) → (b ≡ true → k ≡ y) → (cond b (pos 1) (pos 0)) ≤ℤ (cond (eqb y k) (pos 1) (pos 0))
one_at y k b h = grind (arith, ints, nat_tests)

-- of two there is another
another : (q : ℕ → Bool) (y n : ℕ) → y < n → sum_below (λ k. cond (q k) (pos 1) (pos 0)) n ≡ pos 2 → (z : ℕ) × ((z < n) × ((z ≡ y → ⊥) × (q z ≡ true)))
another q y n l pair = ⊎_elim (λ o. o)
    (λ none.
    let le = sum_below-le (λ k. cond (q k) (pos 1) (pos 0)) (λ k. cond (eqb y k) (pos 1) (pos 0)) n (λ k m. one_at y k (q k) (none k m)) in
    let a = sum_below-at (λ k. pos 1) y n l in
    absurd (omega (arith, ints)))
    (other q y n)

-- one that fails, or all pass
missing : (q : ℕ → Bool) (n : ℕ) → ((y : ℕ) × ((y < n) × (q y ≡ false))) ⊎ ((y : ℕ) → y < n → q y ≡ true)
missing q zero = inr (λ y l. absurd (omega arith))
missing q (suc n) = ⊎_elim
    (λ o. inl (o.0, (let l = o.1.0 in omega arith, o.1.1)))
    (λ all. ⊎_elim
    (λ t. inr (λ y l. ⊎_elim (λ m. all y m) (λ m. let e : n ≡ y = omega arith in subst (λ c. q c ≡ true) e t) (cases_lt y n)))
    (λ f. inl (n, (omega arith, f)))
    (cases_Bool (q n)))
    (missing q n)

-- ---- walks, newest city first

abbrev Chain : (ℕ → ℕ → Bool) → List ℕ → Type 0
Chain p [] = Unit {0}
Chain p (a ∷ []) = Unit {0}
Chain p (a ∷ b ∷ cs) = (p a b ≡ true) × Chain p (b ∷ cs)

abbrev last : ℕ → List ℕ → ℕ
last a [] = a
last a (b ∷ bs) = last b bs

record IsTwoRegular (p : ℕ → ℕ → Bool) (n : ℕ) : Type 0 where
  pub symmetric : (u v : ℕ) → p u v ≡ p v u
  pub no_loop : (u : ℕ) → p u u ≡ false
  pub pair : (x : ℕ) → x < n → neighbours p n x ≡ pos 2

-- a walk along joined cities from city 0
record IsWalk (p : ℕ → ℕ → Bool) (n a : ℕ) (bs : List ℕ) : Type 0 where
  pub below : AllByRecursion (λ c. c < n) (a ∷ bs)
  pub distinct : AreDistinct (a ∷ bs)
  pub chain : Chain p (a ∷ bs)
  pub home : last a bs ≡ 0

-- x has two neighbours among those of s
abbrev Flanked : (ℕ → ℕ → Bool) → (ℕ → Bool) → ℕ → Type 0
Flanked p s x = (y : ℕ) × ((z : ℕ) × ((p x y ≡ true) × ((p x z ≡ true) × ((y ≡ z → ⊥) × ((s y ≡ true) × (s z ≡ true))))))

first_in : (a : ℕ) (bs : List ℕ) → has (a ∷ bs) a ≡ true
first_in a bs = or_left _ _ (eq-eqb a a refl)

last_in : (a : ℕ) (bs : List ℕ) → has (a ∷ bs) (last a bs) ≡ true
last_in a [] = first_in a []
last_in a (b ∷ bs) = or_right _ _ (last_in b bs)

-- two that a list tells apart
told_apart : (xs : List ℕ) (x y : ℕ) → has xs x ≡ true → has xs y ≡ false → x ≡ y → ⊥
told_apart xs x y h k e = let b = subst (λ c. has xs c ≡ true) e h in cc

flank : (p : ℕ → ℕ → Bool) (sym_p : (u v : ℕ) → p u v ≡ p v u) (s : ℕ → Bool) (prev a : ℕ) (bs : List ℕ) (home : ℕ)
    → p a prev ≡ true → Chain p (a ∷ bs) → p (last a bs) home ≡ true → has (a ∷ bs) prev ≡ false → AreDistinct (a ∷ bs) → has (a ∷ bs) home ≡ false → (length bs ≡ 0 → prev ≡ home → ⊥)
    → s prev ≡ true → s home ≡ true → ((m : ℕ) → has (a ∷ bs) m ≡ true → s m ≡ true) → (x : ℕ) → has (a ∷ bs) x ≡ true → Flanked p s x
flank p sym_p s prev a [] home pa ch pl np d nh far sp sh sm x hx = ⊎_elim
    (λ e. let same = eqb-true a x e in
    subst (λ c. Flanked p s c) same (prev, (home, (pa, (pl, (far refl, (sp, sh)))))))
    (λ e. cc)
    (or_cases (eqb a x) false hx)
flank p sym_p s prev a (b ∷ bs) home pa ch pl np d nh far sp sh sm x hx = ⊎_elim
    (λ e. let same = eqb-true a x e in
    let nb = (lacks b bs prev (lacks a (b ∷ bs) prev np).1).0 in
    subst (λ c. Flanked p s c) same (prev, (b, (pa, (ch.0, ((λ q. nb (sym q)), (sp, sm b (or_right _ _ (first_in b bs)))))))))
    (λ e. flank p sym_p s a b bs home (sym_p b a ∙ ch.0) ch.1 pl d.0 d.1 (lacks a (b ∷ bs) home nh).1 (λ _. (lacks a (b ∷ bs) home nh).0) (sm a (first_in a (b ∷ bs))) sh (λ m h. sm m (or_right _ _ h)) x e)
    (or_cases (eqb a x) (has (b ∷ bs) x) hx)

-- each city of a closed walk has two neighbours in it
ring : (p : ℕ → ℕ → Bool) (sym_p : (u v : ℕ) → p u v ≡ p v u) (a b c : ℕ) (ds : List ℕ) → Chain p (a ∷ b ∷ c ∷ ds) → AreDistinct (a ∷ b ∷ c ∷ ds) → p (last c ds) a ≡ true
    → (x : ℕ) → has (a ∷ b ∷ c ∷ ds) x ≡ true → Flanked p (has (a ∷ b ∷ c ∷ ds)) x
ring p sym_p a b c ds ch d pl x hx = ⊎_elim
    (λ e. let same = eqb-true a x e in
    let ne = told_apart (c ∷ ds) (last c ds) b (last_in c ds) d.1.0 in
    subst (λ k. Flanked p (has (a ∷ b ∷ c ∷ ds)) k) same
    (b, (last c ds, (ch.0, (sym_p a (last c ds) ∙ pl, ((λ q. ne (sym q)), (or_right _ _ (first_in b (c ∷ ds)), or_right _ _ (or_right _ _ (last_in c ds)))))))))
    (λ e. flank p sym_p (has (a ∷ b ∷ c ∷ ds)) a b (c ∷ ds) a (sym_p b a ∙ ch.0) ch.1 pl d.0 d.1 d.0 (λ z. absurd (omega arith)) (first_in a (b ∷ c ∷ ds)) (first_in a (b ∷ c ∷ ds)) (λ m h. or_right _ _ h) x e)
    (or_cases (eqb a x) (has (b ∷ c ∷ ds) x) hx)

mid : (p : ℕ → ℕ → Bool) (sym_p : (u v : ℕ) → p u v ≡ p v u) (b c : ℕ) (ds : List ℕ) → Chain p (b ∷ c ∷ ds) → AreDistinct (b ∷ c ∷ ds) → (z : ℕ) → has (c ∷ ds) z ≡ true → (z ≡ last c ds) ⊎ Flanked p (has (b ∷ c ∷ ds)) z
mid p sym_p b c [] ch d z h = ⊎_elim (λ e. inl (sym (eqb-true c z e))) (λ e. cc) (or_cases (eqb c z) false h)
mid p sym_p b c (e ∷ es) ch d z h = ⊎_elim
    (λ q. let same = eqb-true c z q in
    let ne = (lacks e es b (lacks c (e ∷ es) b d.0).1).0 in
    inr (subst (λ k. Flanked p (has (b ∷ c ∷ e ∷ es)) k) same
    (b, (e, (sym_p c b ∙ ch.0, (ch.1.0, ((λ r. ne (sym r)), (first_in b (c ∷ e ∷ es), or_right _ _ (or_right _ _ (first_in e es)))))))))
    )
    (λ q. ⊎_elim
    (λ r. inl r)
    (λ f. inr (f.0, (f.1.0, (f.1.1.0, (f.1.1.1.0, (f.1.1.1.1.0, (or_right _ _ f.1.1.1.1.1.0, or_right _ _ f.1.1.1.1.1.1)))))))
    (mid p sym_p c e es ch.1 d.1 z q))
    (or_cases (eqb c z) (has (e ∷ es) z) h)

pub within : (n : ℕ) (xs : List ℕ) (k : ℕ) → AllByRecursion (λ c. c < n) xs → has xs k ≡ true → k < n
within n [] k al h = cc
within n (x ∷ xs) k al h = ⊎_elim (λ e. let q = eqb-true x k e in let l = al.0 in omega arith) (λ e. within n xs k al.1 e) (or_cases (eqb x k) (has xs k) h)

too_many : (p : ℕ → ℕ → Bool) (n : ℕ) (xs : List ℕ) (x w : ℕ) → AllByRecursion (λ c. c < n) xs → neighbours p n x ≡ pos 2 → Flanked p (has xs) x → w < n → p x w ≡ true → has xs w ≡ false → ⊥
too_many p n xs x w al pair f l h out =
    let t = three (p x) n f.0 f.1.0 w (within n xs f.0 al f.1.1.1.1.1.0) (within n xs f.1.0 al f.1.1.1.1.1.1) l f.1.1.1.1.0
    (told_apart xs f.0 w f.1.1.1.1.1.0 out) (told_apart xs f.1.0 w f.1.1.1.1.1.1 out) f.1.1.0 f.1.1.1.0 h in
    omega (arith, ints)

self_no : (p : ℕ → ℕ → Bool) (x z : ℕ) → p x x ≡ false → p x z ≡ true → x ≡ z → ⊥
self_no p x z f t e = let b = subst (λ c. p x c ≡ false) e f in cc

-- ---- a walk that can't go on

record IsStuck (p : ℕ → ℕ → Bool) (n a : ℕ) (bs : List ℕ) : Type 0 where
  pub is_walk : IsWalk p n a bs
  pub stuck : (w : ℕ) → w < n → p a w ≡ true → has (a ∷ bs) w ≡ true

step_test : (x y : Bool) → (not x || y) ≡ false → (x ≡ true) × (y ≡ false)
step_test true y h = (refl, h)
step_test false y h = cc

stay_test : (x y : Bool) → (not x || y) ≡ true → x ≡ true → y ≡ true
stay_test true y h e = h
stay_test false y h e = cc

-- each walk goes on to one
grow : (p : ℕ → ℕ → Bool) (sym_p : (u v : ℕ) → p u v ≡ p v u) (n k a : ℕ) (bs : List ℕ) → length (a ∷ bs) + k ≡ n → IsWalk p n a bs → (c : ℕ) × ((ds : List ℕ) × IsStuck p n c ds)
grow p sym_p n zero a bs e w = (a, (bs, record { is_walk = w; stuck = λ v l h. tour_has n (a ∷ bs) (record { all = omega arith; below = w.below; distinct = w.distinct }) v l }))
grow p sym_p n (suc k) a bs e w = ⊎_elim
    (λ (v, m).
    let t = step_test (p a v) (has (a ∷ bs) v) m.1 in
    grow p sym_p n k v (a ∷ bs) (omega arith) (record { below = (m.0, w.below); distinct = (t.1, w.distinct); chain = (sym_p v a ∙ t.0, w.chain); home = w.home }))
    (λ all. (a, (bs, record { is_walk = w; stuck = λ v l h. stay_test (p a v) (has (a ∷ bs) v) (all v l) h })))
    (missing (λ v. not (p a v) || has (a ∷ bs) v) n)

-- ---- steps of a walk

along_one : (p : ℕ → ℕ → Bool) (sym_p : (u v : ℕ) → p u v ≡ p v u) (a b u v : ℕ) → p a b ≡ true → joins u v (a, b) ≡ true → p u v ≡ true
along_one p sym_p a b u v h j = ⊎_elim
    (λ q. let x = q.0 in let y = q.1 in subst (λ k. p k v ≡ true) x (subst (λ k. p a k ≡ true) y h))
    (λ q. let x = q.0 in let y = q.1 in sym_p u v ∙ subst (λ k. p k u ≡ true) x (subst (λ k. p a k ≡ true) y h))
    (joins_is a b u v j)

-- each step is along the graph
walk_along : (p : ℕ → ℕ → Bool) (sym_p : (u v : ℕ) → p u v ≡ p v u) (home a : ℕ) (bs : List ℕ) → Chain p (a ∷ bs) → p (last a bs) home ≡ true → (u v : ℕ) → has_step (walk home a bs) u v ≡ true → p u v ≡ true
walk_along p sym_p home a [] ch l u v h = ⊎_elim (λ j. along_one p sym_p a home u v l j) (λ j. cc) (or_cases (joins u v (a, home)) false h)
walk_along p sym_p home a (b ∷ bs) ch l u v h = ⊎_elim (λ j. along_one p sym_p a b u v ch.0 j) (λ j. walk_along p sym_p home b bs ch.1 l u v j) (or_cases (joins u v (a, b)) (has_step (walk home b bs) u v) h)

joins_self : (a b : ℕ) → joins a b (a, b) ≡ true
joins_self a b = grind (arith, nat_tests)

-- a walk is one along its own steps
own_chain : (p : ℕ → ℕ → Bool) (home a : ℕ) (bs : List ℕ) → ((u v : ℕ) → has_step (walk home a bs) u v ≡ true → p u v ≡ true) → Chain p (a ∷ bs) × (p (last a bs) home ≡ true)
own_chain p home a [] h = (tt, h a home (or_left _ _ (joins_self a home)))
own_chain p home a (b ∷ bs) h =
    let ih = own_chain p home b bs (λ u v s. h u v (or_right _ _ s)) in
    ((h a b (or_left _ _ (joins_self a b)), ih.0), ih.1)

same_Bool : (x y : Bool) → (x ≡ true → y ≡ true) → (y ≡ true → x ≡ true) → x ≡ y
same_Bool true true f g = refl
same_Bool true false f g = sym (f refl)
same_Bool false true f g = g refl
same_Bool false false f g = refl

-- ---- the tour

counted : (n : ℕ) (xs : List ℕ) → AllByRecursion (λ c. c < n) xs → AreDistinct xs → sum_below (λ k. cond (has xs k) (pos 1) (pos 0)) n ≡ pos (length xs)
counted n xs al d = sum_list_is (λ k. pos 1) n xs al d ∙ ones xs

count_all : (n : ℕ) → sum_below (λ k. pos 1) n ≡ pos n
count_all zero = refl
count_all (suc n) = let ih = count_all n in omega (arith, ints)

-- a list that has all cities has n of them
whole : (n : ℕ) (xs : List ℕ) → AllByRecursion (λ c. c < n) xs → AreDistinct xs → ((k : ℕ) → k < n → has xs k ≡ true) → length xs ≡ n
whole n xs al d all =
    let same = sum_below-same (λ k. cond (has xs k) (pos 1) (pos 0)) (λ k. pos 1) n (λ k l. cond-true _ _ _ (all k l)) in
    let e = counted n xs al d in
    let o = count_all n in
    omega (arith, ints)

record IsRound (p : ℕ → ℕ → Bool) (n : ℕ) (tour : List ℕ) : Type 0 where
  pub is_tour : IsTour n tour
  pub steps : (u v : ℕ) → u < n → v < n → p u v ≡ has_step (steps tour) u v

-- a stuck walk comes back, and is closed; where all closed lists with city 0 have all cities it is a tour
stuck_is_round : (p : ℕ → ℕ → Bool) (n a : ℕ) (bs : List ℕ) → IsTwoRegular p n → IsStuck p n a bs
    → ((t : List ℕ) → has t 0 ≡ true → ((u v : ℕ) → u < n → v < n → p u v ≡ true → has t u ≡ has t v) → (k : ℕ) → k < n → has t k ≡ true) → IsRound p n (a ∷ bs)
stuck_is_round p n a [] r s all =
    let z = another (p a) a n s.is_walk.below.0 (r.pair a s.is_walk.below.0) in
    absurd (⊎_elim (λ e. z.1.1.0 (sym (eqb-true a z.0 e))) (λ e. cc) (or_cases (eqb a z.0) false (s.stuck z.0 z.1.0 z.1.1.1)))
stuck_is_round p n a (b ∷ []) r s all =
    let z = another (p a) b n s.is_walk.below.1.0 (r.pair a s.is_walk.below.0) in
    absurd (⊎_elim
    (λ e. self_no p a z.0 (r.no_loop a) z.1.1.1 (eqb-true a z.0 e))
    (λ f. ⊎_elim (λ e. z.1.1.0 (sym (eqb-true b z.0 e))) (λ e. cc) (or_cases (eqb b z.0) false f))
    (or_cases (eqb a z.0) (has (b ∷ []) z.0) (s.stuck z.0 z.1.0 z.1.1.1)))
stuck_is_round p n a (b ∷ c ∷ ds) r s all =
    let xs : List ℕ = a ∷ b ∷ c ∷ ds in
    let w = s.is_walk in
    let al = w.below in let d = w.distinct in
    let z = another (p a) b n al.1.0 (r.pair a al.0) in
    let in_tail : has (c ∷ ds) z.0 ≡ true = ⊎_elim
    (λ e. absurd (self_no p a z.0 (r.no_loop a) z.1.1.1 (eqb-true a z.0 e)))
    (λ f. ⊎_elim (λ e. absurd (z.1.1.0 (sym (eqb-true b z.0 e)))) (λ e. e) (or_cases (eqb b z.0) (has (c ∷ ds) z.0) f))
    (or_cases (eqb a z.0) (has (b ∷ c ∷ ds) z.0) (s.stuck z.0 z.1.0 z.1.1.1)) in
    let back : z.0 ≡ last c ds = ⊎_elim (λ e. e)
    (λ f. absurd (too_many p n (b ∷ c ∷ ds) z.0 a al.1 (r.pair z.0 z.1.0) f al.0 (r.symmetric z.0 a ∙ z.1.1.1) d.0))
    (mid p r.symmetric b c ds w.chain.1 d.1 z.0 in_tail) in
    let closes : p (last c ds) a ≡ true = r.symmetric (last c ds) a ∙ subst (λ k. p a k ≡ true) back z.1.1.1 in
    let flanked = ring p r.symmetric a b c ds w.chain d closes in
    let closed : (x v : ℕ) → has xs x ≡ true → v < n → p x v ≡ true → has xs v ≡ true =
    λ x v hx l h. true_from_ne_false (has xs v) (λ out. too_many p n xs x v al (r.pair x (within n xs x al hx)) (flanked x hx) l h out) in
    let every = all xs (subst (λ k. has xs k ≡ true) w.home (last_in a (b ∷ c ∷ ds))) (λ u v lu lv h. same_Bool (has xs u) (has xs v) (λ t. closed u v t lv h) (λ t. closed v u t lu (r.symmetric v u ∙ h))) in
    let es = steps xs in
    let along = walk_along p r.symmetric a a (b ∷ c ∷ ds) w.chain closes in
    let own = own_chain (has_step es) a a (b ∷ c ∷ ds) (λ u v h. h) in
    let beside = ring (has_step es) (has_step_swap es) a b c ds own.0 d own.1 in
    record {
      is_tour = record { all = whole n xs al d every; below = al; distinct = d };
      steps = λ u v lu lv. same_Bool (p u v) (has_step es u v)
          (λ h.
          let f = beside u (every u lu) in
          true_from_ne_false (has_step es u v) (λ none.
          let t = three (p u) n f.0 f.1.0 v (within n xs f.0 al f.1.1.1.1.1.0) (within n xs f.1.0 al f.1.1.1.1.1.1) lv f.1.1.1.1.0
          (λ e. let y = subst (λ k. has_step es u k ≡ true) e f.1.1.0 in cc) (λ e. let y = subst (λ k. has_step es u k ≡ true) e f.1.1.1.0 in cc)
          (along u f.0 f.1.1.0) (along u f.1.0 f.1.1.1.0) h in
          let pair = r.pair u lu in
          omega (arith, ints)))
          (λ h. along u v h);
    }

-- ---- the pairs that a path uses

no_self : (n : ℕ) (path more : List Condition) (u : ℕ) → ContinuesPath n path more → is_present more u u ≡ false
no_self n path [] u h = refl
no_self n path (fixed a b ∷ more) u h =
    let l = h.0.0.0.0 in
    let here : joins u u (a, b) ≡ false = grind (arith, nat_tests) in
    or_from _ _ here (no_self n (path ++ fixed a b ∷ []) more u h.1)
no_self n path (absent a b ∷ more) u h = no_self n (path ++ absent a b ∷ []) more u h.1
no_self n path (present a b ∷ more) u h =
    let l = h.0.0.0 in
    let here : joins u u (a, b) ≡ false = grind (arith, nat_tests) in
    or_from _ _ here (no_self n (path ++ present a b ∷ []) more u h.1)
no_self n path (two s ∷ more) u h = no_self n (path ++ two s ∷ []) more u h.1
no_self n path (four s ∷ more) u h = no_self n (path ++ four s ∷ []) more u h.1

ends_none : (x : Bool) (a b v : ℕ) → (a ≡ v → ⊥) → (b ≡ v → ⊥) → cond (x && (eqb a v || eqb b v)) (pos 1) (pos 0) ≡ pos 0
ends_none x a b v f g = grind (arith, nat_tests)

ends_low : (x : Bool) (a b v : ℕ) → (b ≡ v → ⊥) → cond (x && (eqb a v || eqb b v)) (pos 1) (pos 0) ≡ cond (eqb v a) (cond x (pos 1) (pos 0)) (pos 0)
ends_low x a b v g = grind (arith, nat_tests)

ends_high : (x y : Bool) (a b v : ℕ) → b ≡ v → x ≡ y → cond (x && (eqb a v || eqb b v)) (pos 1) (pos 0) ≡ cond y (pos 1) (pos 0)
ends_high x y a b v e f = grind (arith, nat_tests)

-- the pairs at a city are its neighbours
pairs_at : (p : ℕ → ℕ → Bool) (sym_p : (u v : ℕ) → p u v ≡ p v u) (never : (u : ℕ) → p u u ≡ false) (n v : ℕ) → v < n
    → sum_pairs (λ a b. cond (p a b && (eqb a v || eqb b v)) (pos 1) (pos 0)) n ≡ neighbours p n v
pairs_at p sym_p never zero v h = absurd (omega arith)
pairs_at p sym_p never (suc n) v h = ⊎_elim
    (λ l.
    let ih = pairs_at p sym_p never n v l in
    let here = sum_below-same (λ a. cond (p a n && (eqb a v || eqb n v)) (pos 1) (pos 0)) (λ a. cond (eqb v a) (cond (p a n) (pos 1) (pos 0)) (pos 0)) n (λ a m. ends_low (p a n) a n v (omega arith)) in
    let one = sum_below-at (λ a. cond (p a n) (pos 1) (pos 0)) v n l in
    omega (arith, ints))
    (λ l.
    let e : n ≡ v = omega arith in
    let before = sum_pairs-same (λ a b. cond (p a b && (eqb a v || eqb b v)) (pos 1) (pos 0)) (λ a b. pos 0) n (λ a b m q. ends_none (p a b) a b v (omega arith) (omega arith)) in
    let none = sum_pairs-zero n in
    let here = sum_below-same (λ a. cond (p a n && (eqb a v || eqb n v)) (pos 1) (pos 0)) (λ a. cond (p v a) (pos 1) (pos 0)) n (λ a m. ends_high (p a n) (p v a) a n v e (sym_p a n ∙ ap (λ k. p k a) e)) in
    let last : cond (p v n) (pos 1) (pos 0) ≡ pos 0 = cond-false _ _ _ (ap (p v) e ∙ never v) in
    omega (arith, ints))
    (cases_lt v n)

two_regular : (n : ℕ) (path : List Condition) → IsPath n path → ((v : ℕ) → v < n → degree n path v ≡ pos 2) → IsTwoRegular (is_present path) n
two_regular n path is pair = record {
  symmetric = is_present-swap path;
  no_loop = λ u. no_self n [] path u is;
  pair = λ x l. sym (pairs_at (is_present path) (is_present-swap path) (λ u. no_self n [] path u is) n x l) ∙ pair x l;
}

-- ---- sets that have all cities

rises_below : (n m : ℕ) (xs : List ℕ) → RisesFrom n m xs → AllByRecursion (λ c. c < n) xs
rises_below n m [] r = tt
rises_below n m (x ∷ xs) r = (r.0.1, rises_below n (x + 1) xs r.1)

rises_lacks : (n m k : ℕ) (xs : List ℕ) → k < m → RisesFrom n m xs → has xs k ≡ false
rises_lacks n m k [] l r = refl
rises_lacks n m k (x ∷ xs) l r = let a = r.0.0 in or_from _ _ (ne_eqb x k (omega arith)) (rises_lacks n (x + 1) k xs (omega arith) r.1)

rises_distinct : (n m : ℕ) (xs : List ℕ) → RisesFrom n m xs → AreDistinct xs
rises_distinct n m [] r = tt
rises_distinct n m (x ∷ xs) r = (rises_lacks n (x + 1) x xs (omega arith) r.1, rises_distinct n (x + 1) xs r.1)

rises_short : (n m : ℕ) (xs : List ℕ) → m ≤ n → RisesFrom n m xs → length xs + m ≤ n
rises_short n m [] l r = omega arith
rises_short n m (x ∷ xs) l r = let a = r.0.0 in let b = r.0.1 in let ih = rises_short n (x + 1) xs (omega arith) r.1 in omega arith

-- a set of n cities below n has each
set_has : (n : ℕ) (s : List ℕ) → IsSet n s → n ≤ length s → (k : ℕ) → k < n → has s k ≡ true
set_has n s is l = let short = rises_short n 0 s (omega arith) is in
    tour_has n s (record { all = omega arith; below = rises_below n 0 s is; distinct = rises_distinct n 0 s is })

-- where each city has two used pairs, and all are reached from city 0, the used pairs are a tour
pub reached_is_tour : (n : ℕ) (path : List Condition) (s : List ℕ) → 1 ≤ n → IsPath n path → ((v : ℕ) → v < n → degree n path v ≡ pos 2) → IsReached n path s → n ≤ length s
    → (tour : List ℕ) × (IsTour n tour × AreStepsOf n path tour)
reached_is_tour n path s some is pair reached full =
    let r = two_regular n path is pair in
    let start : IsWalk (is_present path) n 0 [] = record { below = (omega arith, tt); distinct = (refl, tt); chain = tt; home = refl } in
    let e : length {A = ℕ} (0 ∷ []) + (n - 1) ≡ n = omega arith in
    let g = grow (is_present path) r.symmetric n (n - 1) 0 [] e start in
    let round = stuck_is_round (is_present path) n g.0 g.1.0 r g.1.1
    (λ t home closed k l. reached.least t home (λ u v q m h. closed u v (omega arith) m h) k (set_has n s reached.set full k l)) in
    (g.0 ∷ g.1.0, (round.is_tour, λ u v q m. round.steps u v (omega arith) m))
