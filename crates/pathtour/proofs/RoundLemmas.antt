-- Rounds are the tours whose steps the used pairs are.
use Rattle.std.proofs.Common.{◌≡◌, ℕ, ◌<◌, ◌≤◌, Bool, true, false, cond, eqb, ◌||◌, List, [], ◌∷◌, ◌++◌, length, refl, sym, ◌∙◌, ap, subst, arith, inl, ⊎_elim}
use Rattle.std.specs.Prelude.{min, Option, Some, None, IfNone}
use Rattle.std.proofs.lemmas.List.{append-nil, append_assoc, length-append}
use Rattle.std.proofs.lemmas.Bool.{or_cases, or_left, or_right, eqb-true, eq-eqb, cases_Bool}
use Rattle.std.proofs.lemmas.Bool.Decides.{nat_tests}
use Rattle.tspdef.specs.Sets.{has}
use Rattle.tspdef.specs.Tours.{steps, has_step, last_city, IsTour, IsCanonical}
use Rattle.tspdef.specs.Instances.{Instance}
use Rattle.tspdef.specs.Paths.{Condition, is_present, IsPath}
use Rattle.tspdef.specs.Rays.{AreStepsOf}
use Rattle.tspdef.proofs.Steps.{tour_has}
use Rattle.tspdef.proofs.CycleLemmas.{same_cycle_is_same_tour, canonical_form_exists}
use Rattle.pathtour.specs.Neighbours.{AreTwo, two_at, AreNeighbours, LacksTwo}
use Rattle.pathtour.specs.Rounds.{other_of, GoesHome, IsRound, AreWithin}
use Rattle.pathtour.specs.UsedTour.{IsUsedTour, IsUsedByNone}
use Rattle.pathtour.proofs.PresentLemmas.{is_present-swap, used_pair, used_are_steps, used_is_step}
use Rattle.pathtour.proofs.SameSteps.{around, last-append, last_in, within, split_at, split_last, begins}

pub none_weaker : {X : Type 0} (o : Option X) {P Q : Type 0} → (P → Q) → IfNone o P → IfNone o Q
none_weaker {X} None f p = f p
none_weaker {X} (Some x) f p = p

-- ---- a round is known by its length

home_one : (pairs : List (ℕ × ℕ)) (a b : ℕ) (xs ys : List ℕ) → length xs ≡ length ys → GoesHome pairs a b xs → GoesHome pairs a b ys → xs ≡ ys
home_one pairs a b [] [] l p q = refl
home_one pairs a b [] (y ∷ ys) l p q = absurd (omega arith)
home_one pairs a b (x ∷ xs) [] l p q = absurd (omega arith)
home_one pairs a b (x ∷ xs) (y ∷ ys) l p q =
    let ih = home_one pairs b (other_of (two_at pairs b) a) xs ys (omega arith) p.1 q.1 in
    let e = p.0 in let f = q.0 in cc

pub round_one : (pairs : List (ℕ × ℕ)) (xs ys : List ℕ) → length xs ≡ length ys → IsRound pairs xs → IsRound pairs ys → xs ≡ ys
round_one pairs [] ys l p q = absurd p
round_one pairs (x ∷ xs) [] l p q = absurd q
round_one pairs (x ∷ xs) (y ∷ ys) l p q =
    let ih = home_one pairs 0 (min (two_at pairs 0).0 (two_at pairs 0).1) xs ys (omega arith) p.1 q.1 in
    let e = p.0 in let f = q.0 in cc

-- ---- one more step of a walk

-- a list that goes on with a walk, behind the cities so far, is a round
pub walk_ends : (pairs : List (ℕ × ℕ)) (cities : List ℕ) (from to next : ℕ) → next ≡ other_of (two_at pairs to) from
    → ((rest : List ℕ) → GoesHome pairs from to rest → IsRound pairs (cities ++ rest)) → (rest : List ℕ) → GoesHome pairs to next rest → IsRound pairs ((cities ++ to ∷ []) ++ rest)
walk_ends pairs cities from to next e h rest g = subst (IsRound pairs) (sym (append_assoc cities (to ∷ []) rest)) (h (to ∷ rest) (refl, subst (λ k. GoesHome pairs to k rest) e g))

-- each round of n cities begins with the cities so far
abbrev pub BeginRounds : ℕ → List (ℕ × ℕ) → List ℕ → ℕ → ℕ → Type 0
BeginRounds n pairs cities from to = (tour : List ℕ) → length tour ≡ n → IsRound pairs tour → (rest : List ℕ) × (tour ≡ cities ++ rest) × GoesHome pairs from to rest

walk_on : (n : ℕ) (pairs : List (ℕ × ℕ)) (cities : List ℕ) (from to next : ℕ) (tour rest : List ℕ) → next ≡ other_of (two_at pairs to) from → length cities < n → length tour ≡ n → tour ≡ cities ++ rest → GoesHome pairs from to rest
    → (more : List ℕ) × (tour ≡ (cities ++ to ∷ []) ++ more) × GoesHome pairs to next more
walk_on n pairs cities from to next tour [] e l m f g = absurd (let k = ap (λ (xs : List ℕ). length xs) (f ∙ append-nil cities) in omega arith)
walk_on n pairs cities from to next tour (c ∷ cs) e l m f g =
    (cs, f ∙ ap (λ k. cities ++ k ∷ cs) g.0 ∙ sym (append_assoc cities (to ∷ []) cs), subst (λ k. GoesHome pairs to k cs) (sym e) g.1)

pub walk_begins : (n : ℕ) (pairs : List (ℕ × ℕ)) (cities : List ℕ) (from to next : ℕ) → next ≡ other_of (two_at pairs to) from → length cities < n → BeginRounds n pairs cities from to → BeginRounds n pairs (cities ++ to ∷ []) to next
walk_begins n pairs cities from to next e l h tour m r = let p = h tour m r in walk_on n pairs cities from to next tour p.0 e l m p.1 p.2

-- a walk that has all cities and does not come home
pub walk_none : (n : ℕ) (pairs : List (ℕ × ℕ)) (cities : List ℕ) (from to : ℕ) → n ≤ length cities → (to ≡ 0 → ⊥) → BeginRounds n pairs cities from to → (tour : List ℕ) → length tour ≡ n → IsRound pairs tour → ⊥
walk_none n pairs cities from to l ne h tour m r = let p = h tour m r in at_end p.0 p.1 p.2 where
  at_end : (rest : List ℕ) → tour ≡ cities ++ rest → GoesHome pairs from to rest → ⊥
  at_end [] e g = ne g
  at_end (c ∷ cs) e g = let k = ap (λ (xs : List ℕ). length xs) e in let s = length-append cities (c ∷ cs) in omega arith

-- ---- two neighbours

-- one of the two
abbrev in_two : ℕ × ℕ → ℕ → Bool
in_two e w = eqb e.0 w || eqb e.1 w

pub other_below : (e : ℕ × ℕ) (x n : ℕ) → (e.0 < n) × (e.1 < n) → other_of e x < n
other_below (p, q) x n h = let l = h.0 in let m = h.1 in grind (arith, nat_tests)

other_in : (e : ℕ × ℕ) (x : ℕ) → in_two e (other_of e x) ≡ true
other_in (p, q) x = grind (arith, nat_tests)

lower_in : (e : ℕ × ℕ) → in_two e (min e.0 e.1) ≡ true
lower_in (p, q) = grind (arith, nat_tests)

two_other : (p q x y : ℕ) → (p ≡ q → ⊥) → eqb x p || eqb y p ≡ true → eqb x q || eqb y q ≡ true → cond (eqb p y) q p ≡ x
two_other p q x y ne h k = grind (arith, nat_tests)

two_lower : (p q x y : ℕ) → (p ≡ q → ⊥) → eqb x p || eqb y p ≡ true → eqb x q || eqb y q ≡ true → x < y → min p q ≡ x
two_lower p q x y ne h k l = grind (arith, nat_tests)

two_with : (p q x y w : ℕ) → (p ≡ q → ⊥) → eqb p x || eqb q x ≡ true → y ≡ cond (eqb p x) q p → eqb p w || eqb q w ≡ eqb y w || eqb x w
two_with p q x y w ne h e = grind (arith, nat_tests)

two_both : (p q x y w : ℕ) → (x ≡ y → ⊥) → eqb p x || eqb q x ≡ true → eqb p y || eqb q y ≡ true → eqb p w || eqb q w ≡ eqb x w || eqb y w
two_both p q x y w ne h k = grind (arith, nat_tests)

lower_least : (p q z : ℕ) → eqb p z || eqb q z ≡ true → min p q ≤ z
lower_least p q z h = grind (arith, nat_tests)

first_of_two : (p q : ℕ) → eqb p p || eqb q p ≡ true
first_of_two p q = or_left _ _ (eq-eqb p p refl)

second_of_two : (p q : ℕ) → eqb p q || eqb q q ≡ true
second_of_two p q = or_right _ _ (eq-eqb q q refl)

-- ---- a canonical tour whose steps the used pairs are is a round

-- the neighbours of a city are the cities that its steps lead to
steps_at : (n : ℕ) (path : List Condition) (tour : List ℕ) (v x y : ℕ) (e : ℕ × ℕ) → IsPath n path → AreStepsOf n path tour → AreTwo n path v e
    → ((w : ℕ) → has_step (steps tour) v w ≡ eqb x w || eqb y w) → (eqb x e.0 || eqb y e.0 ≡ true) × (eqb x e.1 || eqb y e.1 ≡ true)
steps_at n path tour v x y e is are two at = (
  sym (at e.0) ∙ used_is_step n path tour is are v e.0 (two.used e.0 ∙ first_of_two e.0 e.1),
  sym (at e.1) ∙ used_is_step n path tour is are v e.1 (two.used e.1 ∙ second_of_two e.0 e.1),
)

goes : (n : ℕ) (path : List Condition) (pairs : List (ℕ × ℕ)) (tour rest : List ℕ) → IsPath n path → AreNeighbours n path pairs → IsTour n tour → AreStepsOf n path tour → tour ≡ 0 ∷ rest
    → (front : List ℕ) (a b : ℕ) (cs : List ℕ) → tour ≡ (front ++ a ∷ []) ++ b ∷ cs → b < n → ((k : ℕ) → has cs k ≡ true → k < n) → GoesHome pairs b (other_of (two_at pairs b) a) cs
goes n path pairs tour rest is near t are starts front a b [] e l below =
    let two = near.each b l in
    let pair = two_at pairs b in
    let g = begins front a 0 (b ∷ []) rest (sym e ∙ starts) in
    let at = around n tour (front ++ a ∷ []) b [] 0 g.0 t e g.1 in
    let s = steps_at n path tour b 0 (last_city 0 g.0) pair is are two at in
    subst (λ k. other_of pair k ≡ 0) g.2 (two_other pair.0 pair.1 0 (last_city 0 g.0) two.apart s.0 s.1)
goes n path pairs tour rest is near t are starts front a b (c ∷ cs) e l below =
    let two = near.each b l in
    let pair = two_at pairs b in
    let at = around n tour (front ++ a ∷ []) b (c ∷ cs) c (cs ++ (front ++ a ∷ [])) t e refl in
    let ends : last_city c (cs ++ (front ++ a ∷ [])) ≡ a = ap (last_city c) (sym (append_assoc cs front (a ∷ []))) ∙ last-append c (cs ++ front) a [] in
    let s = steps_at n path tour b c (last_city c (cs ++ (front ++ a ∷ []))) pair is are two at in
    let next : other_of pair a ≡ c = subst (λ k. other_of pair k ≡ c) ends (two_other pair.0 pair.1 c (last_city c (cs ++ (front ++ a ∷ []))) two.apart s.0 s.1) in
    let deeper = goes n path pairs tour rest is near t are starts (front ++ a ∷ []) b c cs (e ∙ sym (append_assoc (front ++ a ∷ []) (b ∷ []) (c ∷ cs))) (below c (or_left _ _ (eq-eqb c c refl))) (λ k h. below k (or_right _ _ h)) in
    subst (λ k. GoesHome pairs b k (c ∷ cs)) (sym next) (refl, deeper)

canonical_is_round : (n : ℕ) (path : List Condition) (pairs : List (ℕ × ℕ)) (tour : List ℕ) → IsPath n path → AreNeighbours n path pairs → IsTour n tour → IsCanonical tour → AreStepsOf n path tour → IsRound pairs tour
canonical_is_round n path pairs [] is near t can are = absurd can
canonical_is_round n path pairs (a ∷ []) is near t can are = absurd can
canonical_is_round n path pairs (a ∷ b ∷ cs) is near t can are =
    let home : a ≡ 0 = can.0 in
    let low : 0 < n = let l = t.all in omega arith in
    let two = near.each 0 low in
    let pair = two_at pairs 0 in
    let tour : List ℕ = a ∷ b ∷ cs in
    let same : tour ≡ 0 ∷ b ∷ cs = ap (λ k. k ∷ b ∷ cs) home in
    let at = around n tour [] 0 (b ∷ cs) b cs t same (append-nil (b ∷ cs)) in
    let s = steps_at n path tour 0 b (last_city b cs) pair is are two at in
    let lower = two_lower pair.0 pair.1 b (last_city b cs) two.apart s.0 s.1 can.1 in
    let on = goes n path pairs tour (b ∷ cs) is near t are same [] 0 b cs same t.below.1.0 (λ k h. within n cs k t.below.1.1 h) in
    (home, subst (λ k. GoesHome pairs 0 k (b ∷ cs)) (sym lower) (refl, on))

-- where no tour is a round, the used pairs are no tour
pub none_used : (n : ℕ) (path : List Condition) (pairs : List (ℕ × ℕ)) → 3 ≤ n → IsPath n path → AreNeighbours n path pairs → ((tour : List ℕ) → IsTour n tour → IsRound pairs tour → ⊥) → IsUsedByNone n path
none_used n path pairs many is near none tour t are =
    let i : Instance = record { n = n; table = []; fixed = [] } in
    let f = canonical_form_exists i tour many (record { is_tour = t; holds_fixed = tt }) in
    let s = same_cycle_is_same_tour i tour f.0 (record { is_tour = t; holds_fixed = tt }) f.1.same in
    none f.0 s.is_tour.is_tour (canonical_is_round n path pairs f.0 is near s.is_tour.is_tour f.1.canonical (λ u v l m. are u v l m ∙ sym (s.joined u v)))

-- ---- a round is a canonical tour whose steps the used pairs are

used_other : (n : ℕ) (path : List Condition) (v : ℕ) (e : ℕ × ℕ) (x : ℕ) → AreTwo n path v e → is_present path v (other_of e x) ≡ true
used_other n path v e x two = two.used (other_of e x) ∙ other_in e x

-- a walk comes to a city from a neighbour, and goes on to the other
record IsPassed (path : List Condition) (pairs : List (ℕ × ℕ)) (v p : ℕ) (back : List ℕ) : Type 0 where
  pub used : is_present path v p ≡ true
  pub on : GoesHome pairs v (other_of (two_at pairs v) p) back

passed : (n : ℕ) (path : List Condition) (pairs : List (ℕ × ℕ)) → IsPath n path → AreNeighbours n path pairs → (front : List ℕ) (a b v : ℕ) (back : List ℕ)
    → is_present path b a ≡ true → GoesHome pairs a b (front ++ v ∷ back) → IsPassed path pairs v (last_city a front) back
passed n path pairs is near [] a b v back h g = subst (λ k. IsPassed path pairs k a back) (sym g.0) (record { used = h; on = g.1 })
passed n path pairs is near (x ∷ xs) a b v back h g =
    let low = (used_pair n [] path is b a h).0 in
    let two = near.each b low in
    let next = other_of (two_at pairs b) a in
    let used : is_present path next b ≡ true = is_present-swap path next b ∙ used_other n path b (two_at pairs b) a two in
    subst (λ k. IsPassed path pairs v (last_city k xs) back) (sym g.0) (passed n path pairs is near xs b next v back used g.1)

-- the steps of a round at a city but the first
inner_steps : (n : ℕ) (path : List Condition) (pairs : List (ℕ × ℕ)) (tour front : List ℕ) (v : ℕ) (back : List ℕ) → AreNeighbours n path pairs → IsTour n tour → tour ≡ (0 ∷ front) ++ v ∷ back → v < n
    → IsPassed path pairs v (last_city 0 front) back → (w : ℕ) → is_present path v w ≡ has_step (steps tour) v w
inner_steps n path pairs tour front v [] near t e l p w =
    let two = near.each v l in
    let pair = two_at pairs v in
    let at = around n tour (0 ∷ front) v [] 0 front t e refl w in
    let home : 0 ≡ other_of pair (last_city 0 front) = sym p.on in
    two.used w ∙ two_with pair.0 pair.1 (last_city 0 front) 0 w two.apart (sym (two.used (last_city 0 front)) ∙ p.used) home ∙ sym at
inner_steps n path pairs tour front v (c ∷ bs) near t e l p w =
    let two = near.each v l in
    let pair = two_at pairs v in
    let at = around n tour (0 ∷ front) v (c ∷ bs) c (bs ++ 0 ∷ front) t e refl w in
    let ends : last_city c (bs ++ 0 ∷ front) ≡ last_city 0 front = last-append c bs 0 front in
    two.used w ∙ two_with pair.0 pair.1 (last_city 0 front) c w two.apart (sym (two.used (last_city 0 front)) ∙ p.used) p.on.0
    ∙ ap (λ k. eqb c w || eqb k w) (sym ends) ∙ sym at

-- the first and the last city of a round
record IsClosed (n : ℕ) (path : List Condition) (tour : List ℕ) : Type 0 where
  pub canonical : IsCanonical tour
  pub joined : (w : ℕ) → is_present path 0 w ≡ has_step (steps tour) 0 w

lower_used : (n : ℕ) (path : List Condition) (pairs : List (ℕ × ℕ)) → AreTwo n path 0 (two_at pairs 0) → is_present path (min (two_at pairs 0).0 (two_at pairs 0).1) 0 ≡ true
lower_used n path pairs two =
    let e = two_at pairs 0 in
    is_present-swap path (min e.0 e.1) 0 ∙ two.used (min e.0 e.1) ∙ lower_in e

closes : (n : ℕ) (path : List Condition) (pairs : List (ℕ × ℕ)) (cs : List ℕ) → 3 ≤ n → IsPath n path → AreNeighbours n path pairs → IsTour n (0 ∷ cs) → IsRound pairs (0 ∷ cs) → IsClosed n path (0 ∷ cs)
closes n path pairs [] many is near t r = absurd (let l = t.all in omega arith)
closes n path pairs (m ∷ []) many is near t r = absurd (let l = t.all in omega arith)
closes n path pairs (m ∷ c ∷ ds) many is near t r =
    let two = near.each 0 (omega arith) in
    let pair = two_at pairs 0 in
    let lower = min pair.0 pair.1 in
    let z = last_city m (c ∷ ds) in
    let s = split_last m (c ∷ ds) in
    let on : GoesHome pairs 0 lower (s.0 ++ z ∷ []) = subst (GoesHome pairs 0 lower) s.1 r.1 in
    let p = passed n path pairs is near s.0 0 lower z [] (lower_used n path pairs two) on in
    let low = (used_pair n [] path is z (last_city 0 s.0) p.used).0 in
    let back : is_present path z 0 ≡ true = subst (λ k. is_present path z k ≡ true) p.on (used_other n path z (two_at pairs z) (last_city 0 s.0) (near.each z low)) in
    let last : eqb pair.0 z || eqb pair.1 z ≡ true = sym (two.used z) ∙ is_present-swap path 0 z ∙ back in
    let first : eqb pair.0 m || eqb pair.1 m ≡ true = subst (λ k. eqb pair.0 k || eqb pair.1 k ≡ true) (sym r.1.0) (lower_in pair) in
    let ne : m ≡ z → ⊥ = λ q. let a = t.distinct.1.0 in let b = last_in c ds in let d = subst (λ k. has (c ∷ ds) k ≡ false) q a in cc in
    let least = lower_least pair.0 pair.1 z last in
    let head = r.1.0 in
    let at = around n (0 ∷ m ∷ c ∷ ds) [] 0 (m ∷ c ∷ ds) m (c ∷ ds) t refl (append-nil (m ∷ c ∷ ds)) in
    record {
      canonical = (refl, omega (arith, ne));
      joined = λ w. two.used w ∙ two_both pair.0 pair.1 m z w ne first last ∙ sym (at w);
    }

round_steps : (n : ℕ) (path : List Condition) (pairs : List (ℕ × ℕ)) (cs : List ℕ) → 3 ≤ n → IsPath n path → AreNeighbours n path pairs → IsTour n (0 ∷ cs) → IsRound pairs (0 ∷ cs) → (v : ℕ) → v < n
    → (w : ℕ) → is_present path v w ≡ has_step (steps (0 ∷ cs)) v w
round_steps n path pairs cs many is near t r v l w = ⊎_elim
    (λ e. subst (λ k. is_present path k w ≡ has_step (steps (0 ∷ cs)) k w) (eqb-true 0 v e) ((closes n path pairs cs many is near t r).joined w))
    (λ h.
    let s = split_at cs v h in
    let lower = min (two_at pairs 0).0 (two_at pairs 0).1 in
    let on : GoesHome pairs 0 lower (s.0 ++ v ∷ s.1) = subst (GoesHome pairs 0 lower) s.2 r.1 in
    let p = passed n path pairs is near s.0 0 lower v s.1 (lower_used n path pairs (near.each 0 (omega arith))) on in
    inner_steps n path pairs (0 ∷ cs) s.0 v s.1 near t (ap (λ xs. 0 ∷ xs) s.2) l p w)
    (or_cases (eqb 0 v) (has cs v) (tour_has n (0 ∷ cs) t v l))

pub round_is_used : (n : ℕ) (path : List Condition) (pairs : List (ℕ × ℕ)) (tour : List ℕ) → 3 ≤ n → IsPath n path → AreNeighbours n path pairs → IsTour n tour → IsRound pairs tour → IsUsedTour n path tour
round_is_used n path pairs [] many is near t r = absurd r
round_is_used n path pairs (c ∷ cs) many is near t r =
    let tour : IsTour n (0 ∷ cs) = subst (λ k. IsTour n (k ∷ cs)) r.0 t in
    let round : IsRound pairs (0 ∷ cs) = (refl, r.1) in
    subst (λ k. IsUsedTour n path (k ∷ cs)) (sym r.0) (record {
      is_tour = tour;
      canonical = (closes n path pairs cs many is near tour round).canonical;
      used = λ u v l m. round_steps n path pairs cs many is near tour round u (omega arith) v;
    })

-- ---- where the used pairs are a tour, each city has two

two_steps : (n : ℕ) (path : List Condition) (tour : List ℕ) (v m c : ℕ) (ds : List ℕ) → IsPath n path → AreStepsOf n path tour → v < n → m < n → last_city c ds < n → (m ≡ v → ⊥) → (last_city c ds ≡ v → ⊥) → (m ≡ last_city c ds → ⊥)
    → ((w : ℕ) → has_step (steps tour) v w ≡ eqb m w || eqb (last_city c ds) w) → AreTwo n path v (m, last_city c ds)
two_steps n path tour v m c ds is are l lm lz nm nz ne at =
    let z = last_city c ds in
    let use_m = used_are_steps n path tour are v m l lm (λ q. nm (sym q)) ∙ at m ∙ first_of_two m z in
    let use_z = used_are_steps n path tour are v z l lz (λ q. nz (sym q)) ∙ at z ∙ second_of_two m z in
    record {
      below = (lm, lz);
      apart = ne;
      used = λ w. ⊎_elim
          (λ h. h ∙ sym (sym (at w) ∙ used_is_step n path tour is are v w h))
          (λ h. ⊎_elim
          (λ k. absurd (⊎_elim
          (λ q. let u = subst (λ x. is_present path v x ≡ true) (eqb-true m w q) use_m in cc)
          (λ q. let u = subst (λ x. is_present path v x ≡ true) (eqb-true z w q) use_z in cc)
          (or_cases (eqb m w) (eqb z w) k)))
          (λ k. h ∙ sym k)
          (cases_Bool (eqb m w || eqb z w)))
          (cases_Bool (is_present path v w));
    }

two_from : (n : ℕ) (path : List Condition) (tour : List ℕ) (v : ℕ) (rest : List ℕ) → 3 ≤ n → IsPath n path → AreStepsOf n path tour → v < n → IsTour n (v ∷ rest)
    → ((m : ℕ) (ms : List ℕ) → rest ≡ m ∷ ms → (w : ℕ) → has_step (steps tour) v w ≡ eqb m w || eqb (last_city m ms) w) → (e : ℕ × ℕ) × AreTwo n path v e
two_from n path tour v [] many is are l t at = absurd (let k = t.all in omega arith)
two_from n path tour v (m ∷ []) many is are l t at = absurd (let k = t.all in omega arith)
two_from n path tour v (m ∷ c ∷ ds) many is are l t at =
    let z = last_city c ds in
    let lone = t.distinct.0 in
    let tail = t.distinct.1.0 in
    let z_in : has (m ∷ c ∷ ds) z ≡ true = or_right _ _ (last_in c ds) in
    let m_in : has (m ∷ c ∷ ds) m ≡ true = or_left _ _ (eq-eqb m m refl) in
    let nm : m ≡ v → ⊥ = λ q. let a = subst (λ k. has (m ∷ c ∷ ds) k ≡ true) q m_in in cc in
    let nz : z ≡ v → ⊥ = λ q. let a = subst (λ k. has (m ∷ c ∷ ds) k ≡ true) q z_in in cc in
    let ne : m ≡ z → ⊥ = λ q. let a = subst (λ k. has (c ∷ ds) k ≡ false) q tail in let b = last_in c ds in cc in
    ((m, z), two_steps n path tour v m c ds is are l t.below.1.0 (within n (m ∷ c ∷ ds) z t.below.1 z_in) nm nz ne (at m (c ∷ ds) refl))

tour_two : (n : ℕ) (path : List Condition) (tour : List ℕ) → 3 ≤ n → IsPath n path → IsTour n tour → AreStepsOf n path tour → (v : ℕ) → v < n → (e : ℕ × ℕ) × AreTwo n path v e
tour_two n path tour many is t are v l =
    let s = split_at tour v (tour_has n tour t v l) in
    let i : Instance = record { n = n; table = []; fixed = [] } in
    let turned = same_cycle_is_same_tour i tour (v ∷ (s.1 ++ s.0)) (record { is_tour = t; holds_fixed = tt }) (inl (s.0, v ∷ s.1, s.2, refl)) in
    two_from n path tour v (s.1 ++ s.0) many is are l turned.is_tour.is_tour (λ m ms e. around n tour s.0 v s.1 m ms t s.2 e)

-- where some city lacks two neighbours, the used pairs are no tour
pub lacking_used : (n : ℕ) (path : List Condition) → 3 ≤ n → IsPath n path → LacksTwo n path → IsUsedByNone n path
lacking_used n path many is (v, l, none) tour t are = let e = tour_two n path tour many is t are v l in none e.0 e.1

pub neighbours_within : (n : ℕ) (path : List Condition) (pairs : List (ℕ × ℕ)) → AreNeighbours n path pairs → AreWithin pairs
neighbours_within n path pairs near v l =
    let e = near.long in
    let b = (near.each v (omega arith)).below in
    let x = b.0 in let y = b.1 in
    (omega arith, omega arith)
