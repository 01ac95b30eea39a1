use Rattle.std.proofs.Common.{◌≡◌, ℕ, ◌+◌, ◌<◌, ◌≤◌, Bool, true, false, cond, eqb, ◌||◌, not, List, [], ◌∷◌, ◌++◌, length, refl, sym, ◌∙◌, ap, subst, arith, ◌⊎◌, inl, inr, ⊎_elim}
use Rattle.std.specs.Prelude.{reverse}
use Rattle.std.specs.List.{AllByRecursion}
use Rattle.std.proofs.lemmas.List.{append-nil, append_assoc, length-append, length-reverse, reverse-append}
use Rattle.std.proofs.lemmas.Grind.{reverse_onto}
use Rattle.std.proofs.lemmas.Bool.{cases_lt, or_cases, or_parts, or_from, or_left, or_right, eqb-true, ne_eqb, eq-eqb, false_from_ne_true}
use Rattle.std.proofs.lemmas.Bool.Decides.{nat_tests}
use Rattle.tspdef.specs.Sets.{has}
use Rattle.tspdef.specs.Tours.{AreDistinct, IsTour, walk, steps, joins, has_step, travelled, crosses, crossings, last_city, IsCanonical, IsTurned, IsSameCycle}
use Rattle.tspdef.specs.Fixed.{AreSteps}
use Rattle.tspdef.specs.Instances.{Instance, dist}
use Rattle.tspdef.specs.Paths.{Condition, fixed, absent, present, two, four, Meets}
use Rattle.tspdef.specs.Laws.{IsSameTour, SameCycleIsSameTour, CanonicalFormExists, CanonicalFormIsOne}
use Rattle.tspdef.proofs.Steps.{tour_has}
use Rattle.tspdef.proofs.Duality.{dist-sym}

-- ---- lists of steps that count the same

record AreSameSteps (i : Instance) (es fs : List (ℕ × ℕ)) : Type 0 where
  pub long : travelled (dist i) fs ≡ travelled (dist i) es
  pub crossed : (s : ℕ → Bool) → crossings s fs ≡ crossings s es
  pub joined : (u v : ℕ) → has_step fs u v ≡ has_step es u v

same_refl : (i : Instance) (es : List (ℕ × ℕ)) → AreSameSteps i es es
same_refl i es = record { long = refl; crossed = λ s. refl; joined = λ u v. refl }

same_trans : (i : Instance) (es fs gs : List (ℕ × ℕ)) → AreSameSteps i es fs → AreSameSteps i fs gs → AreSameSteps i es gs
same_trans i es fs gs p q = record {
  long = q.long ∙ p.long;
  crossed = λ s. q.crossed s ∙ p.crossed s;
  joined = λ u v. q.joined u v ∙ p.joined u v;
}

travelled-append : (d : ℕ → ℕ → ℕ) (es fs : List (ℕ × ℕ)) → travelled d (es ++ fs) ≡ travelled d es + travelled d fs
travelled-append d [] fs = omega arith
travelled-append d (e ∷ es) fs = let ih = travelled-append d es fs in omega arith

crossings-append : (s : ℕ → Bool) (es fs : List (ℕ × ℕ)) → crossings s (es ++ fs) ≡ crossings s es + crossings s fs
crossings-append s [] fs = omega arith
crossings-append s (e ∷ es) fs = let ih = crossings-append s es fs in omega arith

or-assoc : (x y z : Bool) → (x || y) || z ≡ x || (y || z)
or-assoc true y z = refl
or-assoc false y z = refl

or-comm : (x y : Bool) → x || y ≡ y || x
or-comm true true = refl
or-comm true false = refl
or-comm false true = refl
or-comm false false = refl

has_step-append : (es fs : List (ℕ × ℕ)) (u v : ℕ) → has_step (es ++ fs) u v ≡ has_step es u v || has_step fs u v
has_step-append [] fs u v = refl
has_step-append (e ∷ es) fs u v = ap (λ b. joins u v e || b) (has_step-append es fs u v) ∙ sym (or-assoc (joins u v e) (has_step es u v) (has_step fs u v))

-- in the other order
same_swap : (i : Instance) (es fs : List (ℕ × ℕ)) → AreSameSteps i (es ++ fs) (fs ++ es)
same_swap i es fs = record {
  long = let a = travelled-append (dist i) es fs in let b = travelled-append (dist i) fs es in omega arith;
  crossed = λ s. let a = crossings-append s es fs in let b = crossings-append s fs es in omega arith;
  joined = λ u v. has_step-append fs es u v ∙ or-comm (has_step fs u v) (has_step es u v) ∙ sym (has_step-append es fs u v);
}

-- one more in front
same_more : (i : Instance) (e : ℕ × ℕ) (es fs : List (ℕ × ℕ)) → AreSameSteps i es fs → AreSameSteps i (e ∷ es) (e ∷ fs)
same_more i e es fs p = record {
  long = ap (λ k. dist i e.0 e.1 + k) p.long;
  crossed = λ s. ap (λ k. cond (crosses s e) 1 0 + k) (p.crossed s);
  joined = λ u v. ap (λ b. joins u v e || b) (p.joined u v);
}

both_ways : (x y : Bool) → cond x (not y) y ≡ cond y (not x) x
both_ways true true = refl
both_ways true false = refl
both_ways false true = refl
both_ways false false = refl

joins_back : (u v a b : ℕ) → joins u v (b, a) ≡ joins u v (a, b)
joins_back u v a b = grind (arith, nat_tests)

-- a step the other way
same_back : (i : Instance) (a b : ℕ) (es : List (ℕ × ℕ)) → AreSameSteps i ((a, b) ∷ es) ((b, a) ∷ es)
same_back i a b es = record {
  long = ap (λ k. k + travelled (dist i) es) (dist-sym i b a);
  crossed = λ s. ap (λ x. cond {A = ℕ} x 1 0 + crossings s es) (both_ways (s b) (s a));
  joined = λ u v. ap (λ x. x || has_step es u v) (joins_back u v a b);
}

-- ---- the steps of a part of a tour

-- the steps from a through bs to z
abbrev line : ℕ → List ℕ → ℕ → List (ℕ × ℕ)
line a [] z = (a, z) ∷ []
line a (b ∷ bs) z = (a, b) ∷ line b bs z

walk_line : (home a : ℕ) (bs : List ℕ) → walk home a bs ≡ line a bs home
walk_line home a [] = refl
walk_line home a (b ∷ bs) = ap (λ es. (a, b) ∷ es) (walk_line home b bs)

line-append : (a : ℕ) (bs : List ℕ) (c : ℕ) (cs : List ℕ) (z : ℕ) → line a (bs ++ c ∷ cs) z ≡ line a bs c ++ line c cs z
line-append a [] c cs z = refl
line-append a (b ∷ bs) c cs z = ap (λ es. (a, b) ∷ es) (line-append b bs c cs z)

steps_line : (a : ℕ) (cs : List ℕ) (b : ℕ) (bs : List ℕ) → steps ((a ∷ cs) ++ (b ∷ bs)) ≡ line a cs b ++ line b bs a
steps_line a cs b bs = walk_line a a (cs ++ b ∷ bs) ∙ line-append a cs b bs a

turned_steps : (i : Instance) (front back : List ℕ) → AreSameSteps i (steps (front ++ back)) (steps (back ++ front))
turned_steps i [] back = subst (λ (xs : List ℕ). AreSameSteps i (steps back) (steps xs)) (sym (append-nil back)) (same_refl i (steps back))
turned_steps i (a ∷ cs) [] = subst (λ (xs : List ℕ). AreSameSteps i (steps xs) (steps (a ∷ cs))) (sym (append-nil (a ∷ cs))) (same_refl i (steps (a ∷ cs)))
turned_steps i (a ∷ cs) (b ∷ bs) =
    subst (λ (es : List (ℕ × ℕ)). AreSameSteps i es (steps ((b ∷ bs) ++ (a ∷ cs)))) (sym (steps_line a cs b bs))
    (subst (λ (es : List (ℕ × ℕ)). AreSameSteps i (line a cs b ++ line b bs a) es) (sym (steps_line b bs a cs)) (same_swap i (line a cs b) (line b bs a)))

reverse-cons : (x : ℕ) (xs : List ℕ) → reverse (x ∷ xs) ≡ reverse xs ++ x ∷ []
reverse-cons x xs = reverse_onto xs x []

line_back : (i : Instance) (a : ℕ) (bs : List ℕ) (z : ℕ) → AreSameSteps i (line a bs z) (line z (reverse bs) a)
line_back i a [] z = same_back i a z []
line_back i a (b ∷ bs) z =
    let ih = line_back i b bs z in
    let e : line z (reverse (b ∷ bs)) a ≡ line z (reverse bs) b ++ (b, a) ∷ [] = ap (λ xs. line z xs a) (reverse-cons b bs) ∙ line-append z (reverse bs) b [] a in
    subst (λ (es : List (ℕ × ℕ)). AreSameSteps i (line a (b ∷ bs) z) es) (sym e)
    (same_trans i _ ((a, b) ∷ line z (reverse bs) b) _ (same_more i (a, b) (line b bs z) (line z (reverse bs) b) ih)
    (same_trans i _ ((b, a) ∷ line z (reverse bs) b) _ (same_back i a b (line z (reverse bs) b)) (same_swap i ((b, a) ∷ []) (line z (reverse bs) b))))

reversed_steps : (i : Instance) (tour : List ℕ) → AreSameSteps i (steps tour) (steps (reverse tour))
reversed_steps i [] = same_refl i []
reversed_steps i (a ∷ bs) =
    let turned = turned_steps i (a ∷ []) (reverse bs) in
    let here : AreSameSteps i (steps (a ∷ bs)) (steps (a ∷ reverse bs)) =
    subst (λ (es : List (ℕ × ℕ)). AreSameSteps i es (steps (a ∷ reverse bs))) (sym (walk_line a a bs))
    (subst (λ (es : List (ℕ × ℕ)). AreSameSteps i (line a bs a) es) (sym (walk_line a a (reverse bs))) (line_back i a bs a)) in
    subst (λ (xs : List ℕ). AreSameSteps i (steps (a ∷ bs)) (steps xs)) (sym (reverse-cons a bs))
    (same_trans i _ (steps (a ∷ reverse bs)) _ here turned)

-- ---- the cities of a turned and of a reversed tour

has-append : (xs ys : List ℕ) (c : ℕ) → has (xs ++ ys) c ≡ has xs c || has ys c
has-append [] ys c = refl
has-append (x ∷ xs) ys c = ap (λ b. eqb x c || b) (has-append xs ys c) ∙ sym (or-assoc (eqb x c) (has xs c) (has ys c))

has-swap : (xs ys : List ℕ) (c : ℕ) → has (xs ++ ys) c ≡ has (ys ++ xs) c
has-swap xs ys c = has-append xs ys c ∙ or-comm (has xs c) (has ys c) ∙ sym (has-append ys xs c)

all_parts : (n : ℕ) (xs ys : List ℕ) → AllByRecursion (λ c. c < n) (xs ++ ys) → AllByRecursion (λ c. c < n) xs × AllByRecursion (λ c. c < n) ys
all_parts n [] ys a = (tt, a)
all_parts n (x ∷ xs) ys a = let p = all_parts n xs ys a.1 in ((a.0, p.0), p.1)

all_join : (n : ℕ) (xs ys : List ℕ) → AllByRecursion (λ c. c < n) xs → AllByRecursion (λ c. c < n) ys → AllByRecursion (λ c. c < n) (xs ++ ys)
all_join n [] ys a b = b
all_join n (x ∷ xs) ys a b = (a.0, all_join n xs ys a.1 b)

record ArePartsDistinct (xs ys : List ℕ) : Type 0 where
  pub front : AreDistinct xs
  pub back : AreDistinct ys
  pub apart : (c : ℕ) → has xs c ≡ true → has ys c ≡ false

distinct_parts : (xs ys : List ℕ) → AreDistinct (xs ++ ys) → ArePartsDistinct xs ys
distinct_parts [] ys d = record { front = tt; back = d; apart = λ c h. cc }
distinct_parts (x ∷ xs) ys d =
    let p = distinct_parts xs ys d.1 in
    let none = or_parts (has xs x) (has ys x) (sym (has-append xs ys x) ∙ d.0) in record {
      front = (none.0, p.front);
      back = p.back;
      apart = λ c h. ⊎_elim (λ e. subst (λ k. has ys k ≡ false) (eqb-true x c e) none.1) (λ r. p.apart c r) (or_cases (eqb x c) (has xs c) h);
    }

distinct_join : (xs ys : List ℕ) → ArePartsDistinct xs ys → AreDistinct (xs ++ ys)
distinct_join [] ys p = p.back
distinct_join (x ∷ xs) ys p = (
  has-append xs ys x ∙ or_from _ _ p.front.0 (p.apart x (or_left _ _ (eq-eqb x x refl))),
  distinct_join xs ys (record { front = p.front.1; back = p.back; apart = λ c h. p.apart c (or_right _ _ h) }),
)

apart_back : (xs ys : List ℕ) → ((c : ℕ) → has xs c ≡ true → has ys c ≡ false) → (c : ℕ) → has ys c ≡ true → has xs c ≡ false
apart_back xs ys f c h = false_from_ne_true (has xs c) (λ e. let g = f c e in cc)

turned_tour : (n : ℕ) (front back : List ℕ) → IsTour n (front ++ back) → IsTour n (back ++ front)
turned_tour n front back t =
    let p = distinct_parts front back t.distinct in
    let a = all_parts n front back t.below in record {
      all = (let l = t.all in let e = length-append front back in let f = length-append back front in omega arith);
      below = all_join n back front a.1 a.0;
      distinct = distinct_join back front (record { front = p.back; back = p.front; apart = apart_back front back p.apart });
    }

has-reverse : (xs : List ℕ) (c : ℕ) → has (reverse xs) c ≡ has xs c
has-reverse [] c = refl
has-reverse (x ∷ xs) c =
    ap (λ ys. has ys c) (reverse-cons x xs) ∙ has-append (reverse xs) (x ∷ []) c
    ∙ or-comm (has (reverse xs) c) (has (x ∷ []) c) ∙ or-assoc (eqb x c) false (has (reverse xs) c) ∙ ap (λ b. eqb x c || b) (has-reverse xs c)

reversed_distinct : (xs : List ℕ) → AreDistinct xs → AreDistinct (reverse xs)
reversed_distinct [] d = tt
reversed_distinct (x ∷ xs) d = subst AreDistinct (sym (reverse-cons x xs)) (distinct_join (reverse xs) (x ∷ []) (record {
  front = reversed_distinct xs d.1;
  back = (refl, tt);
  apart = λ c h. or_from _ _ (ne_eqb x c (λ e. let g : has xs c ≡ false = subst (λ k. has xs k ≡ false) e d.0 in let r = sym (has-reverse xs c) ∙ h in cc)) refl;
}))

reversed_below : (n : ℕ) (xs : List ℕ) → AllByRecursion (λ c. c < n) xs → AllByRecursion (λ c. c < n) (reverse xs)
reversed_below n [] a = tt
reversed_below n (x ∷ xs) a = subst (AllByRecursion (λ c. c < n)) (sym (reverse-cons x xs)) (all_join n (reverse xs) (x ∷ []) (reversed_below n xs a.1) (a.0, tt))

reversed_tour : (n : ℕ) (tour : List ℕ) → IsTour n tour → IsTour n (reverse tour)
reversed_tour n tour t = record {
  all = length-reverse tour ∙ t.all;
  below = reversed_below n tour t.below;
  distinct = reversed_distinct tour t.distinct;
}

-- ---- the same tour

meets_same : (i : Instance) (es fs : List (ℕ × ℕ)) → AreSameSteps i es fs → (c : Condition) → Meets es c → Meets fs c
meets_same i es fs p (fixed u v) m = p.joined u v ∙ m
meets_same i es fs p (absent u v) m = p.joined u v ∙ m
meets_same i es fs p (present u v) m = p.joined u v ∙ m
meets_same i es fs p (two s) m = p.crossed (has s) ∙ m
meets_same i es fs p (four s) m = let e = p.crossed (has s) in omega arith

steps_kept : (i : Instance) (es fs : List (ℕ × ℕ)) → AreSameSteps i es fs → (pairs : List (ℕ × ℕ)) → AreSteps es pairs → AreSteps fs pairs
steps_kept i es fs p [] h = tt
steps_kept i es fs p (q ∷ qs) h = (p.joined q.0 q.1 ∙ h.0, steps_kept i es fs p qs h.1)

from_steps : (i : Instance) (tour other : List ℕ) → AreSteps (steps tour) i.fixed → IsTour i.n other → AreSameSteps i (steps tour) (steps other) → IsSameTour i tour other
from_steps i tour other f t p = record { is_tour = record { is_tour = t; holds_fixed = steps_kept i (steps tour) (steps other) p i.fixed f }; long = p.long; crossed = p.crossed; joined = p.joined; meets = meets_same i (steps tour) (steps other) p }

turned_same : (i : Instance) (tour other : List ℕ) → IsTour i.n tour → IsTurned tour other → IsTour i.n other × AreSameSteps i (steps tour) (steps other)
turned_same i tour other t (front, back, e, f) =
    let is = turned_tour i.n front back (subst (IsTour i.n) e t) in (
      subst (IsTour i.n) (sym f) is,
      subst (λ (xs : List ℕ). AreSameSteps i (steps xs) (steps other)) (sym e) (subst (λ (xs : List ℕ). AreSameSteps i (steps (front ++ back)) (steps xs)) (sym f) (turned_steps i front back)),
    )

pub same_cycle_is_same_tour : SameCycleIsSameTour
same_cycle_is_same_tour i tour other t same = ⊎_elim
    (λ turned. let p = turned_same i tour other t.is_tour turned in from_steps i tour other t.holds_fixed p.0 p.1)
    (λ turned. let p = turned_same i (reverse tour) other (reversed_tour i.n tour t.is_tour) turned in
    from_steps i tour other t.holds_fixed p.0 (same_trans i (steps tour) (steps (reverse tour)) (steps other) (reversed_steps i tour) p.1))
    same

-- ---- the canonical form

-- where a city stands
split_at : (xs : List ℕ) (c : ℕ) → has xs c ≡ true → (front : List ℕ) × (back : List ℕ) × (xs ≡ front ++ c ∷ back)
split_at [] c h = cc
split_at (x ∷ xs) c h = ⊎_elim
    (λ e. ([], xs, ap (λ k. k ∷ xs) (eqb-true x c e)))
    (λ r. let p = split_at xs c r in (x ∷ p.0, p.1, ap (λ ys. x ∷ ys) p.2))
    (or_cases (eqb x c) (has xs c) h)

has_at : (front : List ℕ) (c : ℕ) (back : List ℕ) → has (front ++ c ∷ back) c ≡ true
has_at front c back = has-append front (c ∷ back) c ∙ or-comm (has front c) (has (c ∷ back) c) ∙ or_left _ _ (or_left _ _ (eq-eqb c c refl))

-- a city stands at one place alone
one_place : (xs ys cs bs : List ℕ) (c : ℕ) → AreDistinct (xs ++ c ∷ ys) → xs ++ c ∷ ys ≡ cs ++ c ∷ bs → (xs ≡ cs) × (ys ≡ bs)
one_place [] ys [] bs c d e = (refl, cc)
one_place [] ys (a ∷ cs) bs c d e =
    let tail : ys ≡ cs ++ c ∷ bs = cc in
    let there : has ys c ≡ true = subst (λ zs. has zs c ≡ true) (sym tail) (has_at cs c bs) in
    let none = d.0 in cc
one_place (x ∷ xs) ys [] bs c d e =
    let head : x ≡ c = cc in
    let there : has (xs ++ c ∷ ys) c ≡ true = has_at xs c ys in
    let none = subst (λ k. has (xs ++ c ∷ ys) k ≡ false) head d.0 in cc
one_place (x ∷ xs) ys (a ∷ cs) bs c d e =
    let head : x ≡ a = cc in
    let tail : xs ++ c ∷ ys ≡ cs ++ c ∷ bs = cc in
    let r = one_place xs ys cs bs c d.1 tail in (let p = r.0 in cc, r.1)

-- the rest of a turned tour that begins with c
turned_rest : (tour front back us : List ℕ) (c : ℕ) → AreDistinct tour → tour ≡ front ++ c ∷ back → IsTurned tour (c ∷ us) → us ≡ back ++ front
turned_rest tour front back us c d e (f, [], p, q) =
    let whole : tour ≡ c ∷ us = p ∙ append-nil f ∙ sym q in
    let r = one_place front back [] us c (subst AreDistinct e d) (sym e ∙ whole) in
    sym r.1 ∙ sym (append-nil back) ∙ ap (λ xs. back ++ xs) (sym r.0)
turned_rest tour front back us c d e (f, g ∷ gs, p, q) =
    let head : c ≡ g = cc in
    let tail : us ≡ gs ++ f = cc in
    let same : tour ≡ f ++ c ∷ gs = p ∙ ap (λ k. f ++ k ∷ gs) (sym head) in
    let r = one_place front back f gs c (subst AreDistinct e d) (sym e ∙ same) in
    tail ∙ ap (λ xs. xs ++ f) (sym r.1) ∙ ap (λ xs. back ++ xs) (sym r.0)

reversed_split : (front back : List ℕ) (c : ℕ) → reverse (front ++ c ∷ back) ≡ reverse back ++ c ∷ reverse front
reversed_split front back c = reverse-append front (c ∷ back) ∙ ap (λ xs. xs ++ reverse front) (reverse-cons c back) ∙ append_assoc (reverse back) (c ∷ []) (reverse front)

-- a form that begins with c is the rest of the tour behind c, in one of the two directions
form_rest : (tour front back us : List ℕ) (c : ℕ) → AreDistinct tour → tour ≡ front ++ c ∷ back → IsSameCycle tour (c ∷ us)
    → (us ≡ back ++ front) ⊎ (us ≡ reverse (back ++ front))
form_rest tour front back us c d e same = ⊎_elim
    (λ t. inl (turned_rest tour front back us c d e t))
    (λ t. inr (turned_rest (reverse tour) (reverse back) (reverse front) us c (reversed_distinct tour d) (ap reverse e ∙ reversed_split front back c) t ∙ sym (reverse-append back front)))
    same

-- a reversed list of two cities or more ends with the first and begins with the last
reversed_first : (b : ℕ) (cs : List ℕ) → (m : List ℕ) × (reverse (b ∷ cs) ≡ last_city b cs ∷ m)
reversed_first b [] = ([], refl)
reversed_first b (c ∷ cs) =
    let p = reversed_first c cs in
    (p.0 ++ b ∷ [], reverse-cons b (c ∷ cs) ∙ ap (λ xs. xs ++ b ∷ []) p.1)

last_of_more : (x : ℕ) (m : List ℕ) (b : ℕ) → last_city x (m ++ b ∷ []) ≡ b
last_of_more x [] b = refl
last_of_more x (y ∷ m) b = last_of_more y m b

reversed_ends : (b c : ℕ) (ds : List ℕ) → (m : List ℕ) × (reverse (b ∷ c ∷ ds) ≡ last_city c ds ∷ (m ++ b ∷ []))
reversed_ends b c ds = let p = reversed_first c ds in (p.0, reverse-cons b (c ∷ ds) ∙ ap (λ xs. xs ++ b ∷ []) p.1)

last_is_in : (c : ℕ) (ds : List ℕ) → has (c ∷ ds) (last_city c ds) ≡ true
last_is_in c [] = or_left _ _ (eq-eqb c c refl)
last_is_in c (d ∷ ds) = or_right _ _ (last_is_in d ds)

-- in one of the two directions the second city is less than the last
canonical_way : (w : List ℕ) → 2 ≤ length w → AreDistinct w → IsCanonical (0 ∷ w) ⊎ IsCanonical (0 ∷ reverse w)
canonical_way [] l d = absurd (omega arith)
canonical_way (b ∷ []) l d = absurd (omega arith)
canonical_way (b ∷ c ∷ ds) l d = ⊎_elim
    (λ lt. inl (refl, lt))
    (λ ge.
    let z = last_city c ds in
    let ne : b ≡ z → ⊥ = λ e. let h = last_is_in c ds in let g = subst (λ k. has (c ∷ ds) k ≡ false) e d.0 in cc in
    let p = reversed_ends b c ds in
    let lt : z < last_city z (p.0 ++ b ∷ []) = subst (λ k. z < k) (sym (last_of_more z p.0 b)) (omega (arith, ne)) in
    inr (subst (λ (xs : List ℕ). IsCanonical (0 ∷ xs)) (sym p.1) (refl, lt)))
    (cases_lt b (last_city c ds))

-- and not in both
one_way : (w : List ℕ) → IsCanonical (0 ∷ w) → IsCanonical (0 ∷ reverse w) → ⊥
one_way [] p q = p
one_way (b ∷ []) p q = let l = p.1 in omega arith
one_way (b ∷ c ∷ ds) p q =
    let e = reversed_ends b c ds in
    let z = last_city c ds in
    let r : IsCanonical (0 ∷ z ∷ (e.0 ++ b ∷ [])) = subst (λ (xs : List ℕ). IsCanonical (0 ∷ xs)) e.1 q in
    let l : z < b = subst (λ k. z < k) (last_of_more z e.0 b) r.1 in
    let k = p.1 in omega arith

begins : (form : List ℕ) → IsCanonical form → (us : List ℕ) × (form ≡ 0 ∷ us)
begins [] c = absurd c
begins (a ∷ []) c = absurd c
begins (a ∷ b ∷ cs) c = (b ∷ cs, ap (λ k. k ∷ b ∷ cs) c.0)

pub canonical_form_exists : CanonicalFormExists
canonical_form_exists i tour h t =
    let s = split_at tour 0 (tour_has i.n tour t.is_tour 0 (omega arith)) in
    let front = s.0 in
    let back = s.1 in
    let e = s.2 in
    let w = back ++ front in
    let whole : IsTour i.n ((0 ∷ back) ++ front) = turned_tour i.n front (0 ∷ back) (subst (IsTour i.n) e t.is_tour) in
    let long : 2 ≤ length w = (let l = whole.all in omega arith) in ⊎_elim
    (λ c. (0 ∷ w, record { same = inl (front, 0 ∷ back, e, refl); canonical = c }))
    (λ c. (
      0 ∷ reverse w,
      record {
        same = inr (reverse back, 0 ∷ reverse front, ap reverse e ∙ reversed_split front back 0, ap (λ xs. 0 ∷ xs) (reverse-append back front));
        canonical = c;
      },
    ))
    (canonical_way w long whole.distinct.1)

pub canonical_form_is_one : CanonicalFormIsOne
canonical_form_is_one i tour form other h t p q =
    let s = split_at tour 0 (tour_has i.n tour t.is_tour 0 (omega arith)) in
    let w = s.1 ++ s.0 in
    let a = begins form p.canonical in
    let b = begins other q.canonical in
    let ra = form_rest tour s.0 s.1 a.0 0 t.is_tour.distinct s.2 (subst (IsSameCycle tour) a.1 p.same) in
    let rb = form_rest tour s.0 s.1 b.0 0 t.is_tour.distinct s.2 (subst (IsSameCycle tour) b.1 q.same) in
    let ca : IsCanonical (0 ∷ a.0) = subst IsCanonical a.1 p.canonical in
    let cb : IsCanonical (0 ∷ b.0) = subst IsCanonical b.1 q.canonical in
    let rest : a.0 ≡ b.0 = ⊎_elim
    (λ x. ⊎_elim (λ y. x ∙ sym y) (λ y. absurd (one_way w (subst (λ (xs : List ℕ). IsCanonical (0 ∷ xs)) x ca) (subst (λ (xs : List ℕ). IsCanonical (0 ∷ xs)) y cb))) rb)
    (λ x. ⊎_elim (λ y. absurd (one_way w (subst (λ (xs : List ℕ). IsCanonical (0 ∷ xs)) y cb) (subst (λ (xs : List ℕ). IsCanonical (0 ∷ xs)) x ca))) (λ y. x ∙ sym y) rb)
    ra in
    a.1 ∙ ap (λ xs. 0 ∷ xs) rest ∙ sym b.1
