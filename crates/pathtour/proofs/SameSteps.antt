-- The two steps of a tour at a city; tours that have the same steps.
use Rattle.std.proofs.Common.{◌≡◌, ℕ, ◌<◌, ◌≤◌, Bool, true, false, cond, eqb, ◌||◌, List, [], ◌∷◌, ◌++◌, length, refl, sym, ◌∙◌, ap, subst, arith, inl, ⊎_elim}
use Rattle.std.specs.Prelude.{pos}
use Rattle.std.specs.List.{AllByRecursion}
use Rattle.std.proofs.lemmas.Int.{ints}
use Rattle.std.proofs.lemmas.List.{append-nil, append_assoc}
use Rattle.std.proofs.lemmas.Bool.{or_cases, or_left, or_right, eqb-true, eq-eqb}
use Rattle.std.proofs.lemmas.Bool.Decides.{nat_tests}
use Rattle.tspdef.specs.Sets.{has}
use Rattle.tspdef.specs.Tours.{joins, walk, steps, has_step, travelled, last_city, IsTour, IsCanonical}
use Rattle.tspdef.specs.Sums.{sum_pairs}
use Rattle.tspdef.specs.Instances.{Instance, dist, length_in}
use Rattle.tspdef.proofs.SumLemmas.{sum_pairs-same}
use Rattle.tspdef.proofs.Steps.{lacks, sum_steps, sum_steps_is, tour_steps_distinct, tour_steps_within}
use Rattle.tspdef.proofs.Duality.{dist-sym}
use Rattle.tspdef.proofs.CycleLemmas.{same_cycle_is_same_tour}

-- ---- the steps at a city

last_step : (home a : ℕ) (bs : List ℕ) (w : ℕ) → has (a ∷ bs) home ≡ false → has_step (walk home a bs) home w ≡ eqb (last_city a bs) w
last_step home a [] w h = let p = lacks a [] home h in grind (arith, nat_tests)
last_step home a (b ∷ bs) w h =
    let p = lacks a (b ∷ bs) home h in
    let q = lacks b bs home p.1 in
    let ih = last_step home b bs w p.1 in
    let none : joins home w (a, b) ≡ false = let f = p.0 in let g = q.0 in grind (arith, nat_tests) in
    ap (λ x. x || has_step (walk home b bs) home w) none ∙ ih

first_step : (v m w : ℕ) → (m ≡ v → ⊥) → joins v w (v, m) ≡ eqb m w
first_step v m w f = grind (arith, nat_tests)

-- the steps at the first city of a tour lead to the second and to the last
at_first : (v m : ℕ) (ms : List ℕ) (w : ℕ) → has (m ∷ ms) v ≡ false → has_step (steps (v ∷ m ∷ ms)) v w ≡ eqb m w || eqb (last_city m ms) w
at_first v m ms w h =
    let p = lacks m ms v h in
    ap (λ x. x || has_step (walk v m ms) v w) (first_step v m w p.0) ∙ ap (λ x. eqb m w || x) (last_step v m ms w h)

-- the steps at a city lead to the next one and to the one before it
pub around : (n : ℕ) (tour front : List ℕ) (v : ℕ) (back : List ℕ) (m : ℕ) (ms : List ℕ) → IsTour n tour → tour ≡ front ++ v ∷ back → back ++ front ≡ m ∷ ms
    → (w : ℕ) → has_step (steps tour) v w ≡ eqb m w || eqb (last_city m ms) w
around n tour front v back m ms t e f w =
    let i : Instance = record { n = n; table = []; fixed = [] } in
    let s = same_cycle_is_same_tour i tour (v ∷ (back ++ front)) (record { is_tour = t; holds_fixed = tt }) (inl (front, v ∷ back, e, refl)) in
    let apart = s.is_tour.is_tour.distinct.0 in
    let lone : has (m ∷ ms) v ≡ false = subst (λ (xs : List ℕ). has xs v ≡ false) f apart in
    let here : has_step (steps (v ∷ (back ++ front))) v w ≡ eqb m w || eqb (last_city m ms) w =
    subst (λ (xs : List ℕ). has_step (steps (v ∷ xs)) v w ≡ eqb m w || eqb (last_city m ms) w) (sym f) (at_first v m ms w lone) in
    sym (s.joined v w) ∙ here

-- ---- lists

pub last-append : (c : ℕ) (bs : List ℕ) (y : ℕ) (ys : List ℕ) → last_city c (bs ++ y ∷ ys) ≡ last_city y ys
last-append c [] y ys = refl
last-append c (b ∷ bs) y ys = last-append b bs y ys

pub last_in : (c : ℕ) (ds : List ℕ) → has (c ∷ ds) (last_city c ds) ≡ true
last_in c [] = or_left _ _ (eq-eqb c c refl)
last_in c (d ∷ ds) = or_right _ _ (last_in d ds)

pub within : (n : ℕ) (xs : List ℕ) (k : ℕ) → AllByRecursion (λ c. c < n) xs → has xs k ≡ true → k < n
within n [] k al h = cc
within n (x ∷ xs) k al h = ⊎_elim (λ e. let q = eqb-true x k e in let l = al.0 in omega arith) (λ e. within n xs k al.1 e) (or_cases (eqb x k) (has xs k) h)

pub split_at : (xs : List ℕ) (c : ℕ) → has xs c ≡ true → (front : List ℕ) × (back : List ℕ) × (xs ≡ front ++ c ∷ back)
split_at [] c h = cc
split_at (x ∷ xs) c h = ⊎_elim
    (λ e. ([], xs, ap (λ k. k ∷ xs) (eqb-true x c e)))
    (λ r. let p = split_at xs c r in (x ∷ p.0, p.1, ap (λ ys. x ∷ ys) p.2))
    (or_cases (eqb x c) (has xs c) h)

pub split_last : (m : ℕ) (ms : List ℕ) → (front : List ℕ) × (m ∷ ms ≡ front ++ last_city m ms ∷ [])
split_last m [] = ([], refl)
split_last m (c ∷ cs) = let p = split_last c cs in (m ∷ p.0, ap (λ ys. m ∷ ys) p.1)

-- a list that goes on behind a begins as all of it does
pub begins : (front : List ℕ) (a z : ℕ) (more rest : List ℕ) → (front ++ a ∷ []) ++ more ≡ z ∷ rest → (ms : List ℕ) × (front ++ a ∷ [] ≡ z ∷ ms) × (last_city z ms ≡ a)
begins [] a z more rest e = let h : a ≡ z = cc in ([], ap (λ k. k ∷ []) h, sym h)
begins (x ∷ xs) a z more rest e = let h : x ≡ z = cc in (xs ++ a ∷ [], ap (λ k. k ∷ (xs ++ a ∷ [])) h, last-append z xs a [])

-- ---- tours that have the same steps

travelled_is : (d : ℕ → ℕ → ℕ) (es : List (ℕ × ℕ)) → pos (travelled d es) ≡ sum_steps (λ u v. pos (d u v)) es
travelled_is d [] = refl
travelled_is d (e ∷ es) = let ih = travelled_is d es in omega (arith, ints)

length_sum : (i : Instance) (tour : List ℕ) → 3 ≤ i.n → IsTour i.n tour → pos (length_in i tour) ≡ sum_pairs (λ u v. cond (has_step (steps tour) u v) (pos (dist i u v)) (pos 0)) i.n
length_sum i tour h t =
    travelled_is (dist i) (steps tour)
    ∙ sym (sum_steps_is (λ u v. pos (dist i u v)) (λ u v. ap pos (dist-sym i u v)) i.n (steps tour) (tour_steps_within i.n tour h t) (tour_steps_distinct i.n tour h t))

pub same_length : (i : Instance) (tour other : List ℕ) → 3 ≤ i.n → IsTour i.n tour → IsTour i.n other
    → ((u v : ℕ) → u < v → v < i.n → has_step (steps tour) u v ≡ has_step (steps other) u v) → length_in i tour ≡ length_in i other
same_length i tour other h t o same =
    let a = length_sum i tour h t in
    let b = length_sum i other h o in
    let c = sum_pairs-same (λ u v. cond (has_step (steps tour) u v) (pos (dist i u v)) (pos 0)) (λ u v. cond (has_step (steps other) u v) (pos (dist i u v)) (pos 0)) i.n
    (λ u v l m. ap (λ (x : Bool). cond x (pos (dist i u v)) (pos 0)) (same u v l m)) in
    omega (arith, ints)

-- the steps of two tours are the same
abbrev pub AreSame : ℕ → List ℕ → List ℕ → Type 0
AreSame n tour other = (u v : ℕ) → u < n → v < n → (u ≡ v → ⊥) → has_step (steps tour) u v ≡ has_step (steps other) u v

has_last : (xs : List ℕ) (a : ℕ) → has (xs ++ a ∷ []) a ≡ true
has_last [] a = or_left _ _ (eq-eqb a a refl)
has_last (x ∷ xs) a = or_right _ _ (has_last xs a)

next_same : (a c d : ℕ) → (a ≡ c → ⊥) → eqb d c || eqb a c ≡ true → c ≡ d
next_same a c d ne h = grind (arith, nat_tests)

low_same : (b z d y : ℕ) → eqb d b || eqb y b ≡ true → eqb d z || eqb y z ≡ true → b < z → d < y → b ≡ d
low_same b z d y h k l m = grind (arith, nat_tests)

-- tours with the same steps that begin in the same way go on so
same_on : (n : ℕ) (tour other : List ℕ) → IsTour n tour → IsTour n other → AreSame n tour other → (front : List ℕ) (a b : ℕ) (cs ds : List ℕ)
    → tour ≡ (front ++ a ∷ []) ++ b ∷ cs → other ≡ (front ++ a ∷ []) ++ b ∷ ds → length cs ≡ length ds → cs ≡ ds
same_on n tour other t o same front a b [] [] e f l = refl
same_on n tour other t o same front a b [] (d ∷ ds) e f l = absurd (omega arith)
same_on n tour other t o same front a b (c ∷ cs) [] e f l = absurd (omega arith)
same_on n tour other t o same front a b (c ∷ cs) (d ∷ ds) e f l =
    let i : Instance = record { n = n; table = []; fixed = [] } in
    let before = front ++ a ∷ [] in
    let turned = (same_cycle_is_same_tour i tour (b ∷ c ∷ (cs ++ before)) (record { is_tour = t; holds_fixed = tt }) (inl (before, b ∷ c ∷ cs, e, refl))).is_tour.is_tour in
    let lone_b = turned.distinct.0 in
    let lone_c = turned.distinct.1.0 in
    let nb : b ≡ c → ⊥ = λ q. (lacks c (cs ++ before) b lone_b).0 (sym q) in
    let has_a : has (cs ++ before) a ≡ true = subst (λ (xs : List ℕ). has xs a ≡ true) (append_assoc cs front (a ∷ [])) (has_last (cs ++ front) a) in
    let na : a ≡ c → ⊥ = λ q. let h = subst (λ k. has (cs ++ before) k ≡ true) q has_a in cc in
    let mine = around n tour before b (c ∷ cs) c (cs ++ before) t e refl c in
    let theirs = around n other before b (d ∷ ds) d (ds ++ before) o f refl c in
    let ends : last_city d (ds ++ before) ≡ a = ap (last_city d) (sym (append_assoc ds front (a ∷ []))) ∙ last-append d (ds ++ front) a [] in
    let here : eqb d c || eqb a c ≡ true =
    ap (λ k. eqb d c || eqb k c) (sym ends) ∙ sym theirs ∙ sym (same b c turned.below.0 turned.below.1.0 nb) ∙ mine ∙ or_left _ _ (eq-eqb c c refl) in
    let first = next_same a c d na here in
    let g : other ≡ before ++ b ∷ c ∷ ds = f ∙ ap (λ k. before ++ b ∷ k ∷ ds) (sym first) in
    let rest = same_on n tour other t o same before b c cs ds (e ∙ sym (append_assoc before (b ∷ []) (c ∷ cs))) (g ∙ sym (append_assoc before (b ∷ []) (c ∷ ds))) (omega arith) in
    cc

same_second : (n : ℕ) (b : ℕ) (cs : List ℕ) (d : ℕ) (ds : List ℕ) → IsTour n (0 ∷ b ∷ cs) → IsTour n (0 ∷ d ∷ ds) → AreSame n (0 ∷ b ∷ cs) (0 ∷ d ∷ ds) → b < last_city b cs → d < last_city d ds → b ≡ d
same_second n b cs d ds t o same l m =
    let z = last_city b cs in
    let mine = around n (0 ∷ b ∷ cs) [] 0 (b ∷ cs) b cs t refl (append-nil (b ∷ cs)) in
    let theirs = around n (0 ∷ d ∷ ds) [] 0 (d ∷ ds) d ds o refl (append-nil (d ∷ ds)) in
    let low : z < n = within n (b ∷ cs) z t.below.1 (last_in b cs) in
    let nb = (lacks b cs 0 t.distinct.0).0 in
    low_same b z d (last_city d ds)
    (sym (theirs b) ∙ sym (same 0 b t.below.0 t.below.1.0 (λ q. nb (sym q))) ∙ mine b ∙ or_left _ _ (eq-eqb b b refl))
    (sym (theirs z) ∙ sym (same 0 z t.below.0 low (omega arith)) ∙ mine z ∙ or_right _ _ (eq-eqb z z refl))
    l m

-- canonical tours with the same steps are one
pub same_canonical : (n : ℕ) (tour other : List ℕ) → IsTour n tour → IsTour n other → IsCanonical tour → IsCanonical other → AreSame n tour other → tour ≡ other
same_canonical n [] other t o p q same = absurd p
same_canonical n (a ∷ []) other t o p q same = absurd p
same_canonical n (a ∷ b ∷ cs) [] t o p q same = absurd q
same_canonical n (a ∷ b ∷ cs) (x ∷ []) t o p q same = absurd q
same_canonical n (a ∷ b ∷ cs) (x ∷ d ∷ ds) t o p q same =
    let e : a ∷ b ∷ cs ≡ 0 ∷ b ∷ cs = ap (λ k. k ∷ b ∷ cs) p.0 in
    let f : x ∷ d ∷ ds ≡ 0 ∷ d ∷ ds = ap (λ k. k ∷ d ∷ ds) q.0 in
    let mine : IsTour n (0 ∷ b ∷ cs) = subst (IsTour n) e t in
    let theirs : IsTour n (0 ∷ d ∷ ds) = subst (IsTour n) f o in
    let both : AreSame n (0 ∷ b ∷ cs) (0 ∷ d ∷ ds) = subst (λ (xs : List ℕ). AreSame n xs (0 ∷ d ∷ ds)) e (subst (AreSame n (a ∷ b ∷ cs)) f same) in
    let first = same_second n b cs d ds mine theirs both p.1 q.1 in
    let there : 0 ∷ d ∷ ds ≡ 0 ∷ b ∷ ds = ap (λ k. 0 ∷ k ∷ ds) (sym first) in
    let long = t.all in let longer = o.all in
    let rest = same_on n (0 ∷ b ∷ cs) (0 ∷ d ∷ ds) mine theirs both [] 0 b cs ds refl there (omega arith) in
    e ∙ ap (λ xs. 0 ∷ b ∷ xs) rest ∙ sym there ∙ sym f
