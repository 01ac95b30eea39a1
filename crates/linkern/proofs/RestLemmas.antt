-- From pairs at rest to a tour at rest.
use Rattle.std.proofs.Common.{◌≡◌, ℕ, zero, suc, ◌+◌, ◌<◌, ◌≤◌, Bool, true, false, cond, not, ◌&&◌, eqb, List, [], ◌∷◌, length, get_or, drop, refl, sym, ◌∙◌, ap, subst, arith, ⊎_elim}
use Rattle.std.specs.List.{AllByRecursion}
use Rattle.std.proofs.lemmas.Bool.{cases_Bool, or_cases, or_left, or_right, or_parts, eqb-true, cond-true, cond-false}
use Rattle.std.proofs.lemmas.Bool.Decides.{nat_tests}
use Rattle.std.proofs.lemmas.List.{drop_more, drop_all}
use Rattle.tspdef.specs.Sets.{has}
use Rattle.tspdef.specs.Tours.{IsTour, steps, joins, has_step, travelled, tour_length}
use Rattle.tspdef.specs.Fixed.{AreSteps}
use Rattle.tspdef.specs.Instances.{Instance, IsTourOf, dist, length_in}
use Rattle.tspdef.proofs.Duality.{dist-sym}
use Rattle.tspdef.proofs.Steps.{has_step_swap}
use Rattle.neigh.specs.Near.{Near, near_to}
use Rattle.flips.specs.Cycles.{leads, Follows, IsFlipped}
use Rattle.flips.proofs.Bridges.{next_is_one, previous_is_one, steps_are_within, flip_length}
use Rattle.linkern.specs.declared.resting.Exchange.{Exchange}
use Rattle.linkern.specs.Exchanges.{are_free, Gains, IsPairAtRest}
use Rattle.linkern.specs.Rests.{are_near, IsAtRest}

pub two_before : (n : ℕ) (tour : List ℕ) (a c p q : ℕ) → IsTour n tour → Follows tour p a → Follows tour q c → (a ≡ c → ⊥) → p ≡ q → ⊥
two_before n tour a c p q t f g ne e = ne (next_is_one n tour q a c t (subst (λ v. Follows tour v a) e f) g)

pub two_after : (n : ℕ) (tour : List ℕ) (a c b d : ℕ) → IsTour n tour → Follows tour a b → Follows tour c d → (a ≡ c → ⊥) → b ≡ d → ⊥
two_after n tour a c b d t f g ne e = ne (previous_is_one n tour d a c t (subst (λ v. Follows tour a v) e f) g)

pub pair_rests : (i : Instance) (n : ℕ) (tour : List ℕ) (a c b d p q : ℕ) → IsTour n tour → Follows tour a b → Follows tour c d → Follows tour p a → Follows tour q c
    → (are_free i a b c d ≡ true → dist i a b + dist i c d ≤ dist i a c + dist i b d)
    → (are_free i p a q c ≡ true → dist i p a + dist i q c ≤ dist i p q + dist i a c) → IsPairAtRest i tour a c
pair_rests i n tour a c b d p q t fb fd fp fq ahead behind = record {
  ahead = λ y z ne f g w.
      let e = next_is_one n tour a b y t fb f in
      let h = next_is_one n tour c d z t fd g in
      let one = subst (λ v. are_free i a v c d ≡ true → dist i a v + dist i c d ≤ dist i a c + dist i v d) e ahead in
      subst (λ v. are_free i a y c v ≡ true → dist i a y + dist i c v ≤ dist i a c + dist i y v) h one w;
  behind = λ y z ne f g w.
      let e = previous_is_one n tour a p y t fp f in
      let h = previous_is_one n tour c q z t fq g in
      let one = subst (λ v. are_free i v a q c ≡ true → dist i v a + dist i q c ≤ dist i v q + dist i a c) e behind in
      subst (λ v. are_free i y a v c ≡ true → dist i y a + dist i v c ≤ dist i y v + dist i a c) h one w;
}

pub pair_with_itself_rests : (i : Instance) (tour : List ℕ) (a c : ℕ) → a ≡ c → IsPairAtRest i tour a c
pair_with_itself_rests i tour a c e = record { ahead = λ y z ne f g w. absurd (ne e); behind = λ y z ne f g w. absurd (ne e) }

pub gain_shortens : (i : Instance) (n : ℕ) (old new : List ℕ) (x : Exchange) → IsTour n old → Gains i old x → IsFlipped old new x.b x.c → length_in i new < length_in i old
gain_shortens i n old new x t w f =
    let l = flip_length (dist i) n old new x.a x.b x.c x.d (dist-sym i) t w.into w.out_of w.two f in
    let h = w.gain in omega arith

free_from : (s t : Bool) → s ≡ false → t ≡ false → (not s && not t) ≡ true
free_from s t e f = rw (e, f) refl

free_parts : (s t : Bool) → (not s && not t) ≡ true → (s ≡ false) × (t ≡ false)
free_parts false false e = (refl, refl)
free_parts false true e = absurd (cc)
free_parts true t e = absurd (cc)

-- where each listed pair is at rest the tour is at rest
pub rest_from : (i : Instance) (near : Near) (n : ℕ) (tour : List ℕ) → IsTour n tour
    → ((a c : ℕ) → a < n → has (near_to near a) c ≡ true → IsPairAtRest i tour a c) → IsAtRest i near tour
rest_from i near n tour t all = λ a b c d f g ne fab fcd l.
    let fi = steps_are_within n tour a b t f in
    let gi = steps_are_within n tour c d t g in
    let ac : dist i a c ≡ dist i c a = dist-sym i a c in
    let bd : dist i b d ≡ dist i d b = dist-sym i b d in
    let nb = two_after n tour a c b d t f g ne in
    let w : are_free i a b c d ≡ true = free_from _ _ fab fcd in
    let v : are_free i c d a b ≡ true = free_from _ _ fcd fab in
    ⊎_elim
    (λ (h : are_near near a c ≡ true). ⊎_elim
    (λ (q : has (near_to near a) c ≡ true). (all a c fi.0 q).ahead b d ne f g w)
    (λ (q : has (near_to near c) a ≡ true). let r = (all c a gi.0 q).ahead d b (λ z. ne (sym z)) g f v in let bd' = bd in omega arith)
    (or_cases _ _ h))
    (λ (h : are_near near b d ≡ true). ⊎_elim
    (λ (q : has (near_to near b) d ≡ true). (all b d fi.1 q).behind a c nb f g w)
    (λ (q : has (near_to near d) b ≡ true). let r = (all d b gi.1 q).behind c a (λ z. nb (sym z)) g f v in omega arith)
    (or_cases _ _ h))
    (or_cases _ _ l)

-- ---- steps that stay

-- 1 for a step that joins the pair
abbrev one_if : ℕ × ℕ → ℕ → ℕ → ℕ
one_if p u v = cond (joins p.0 p.1 (u, v)) 1 0

joins_either : (a b u v : ℕ) → joins u v (a, b) ≡ joins u v (b, a)
joins_either a b u v = grind (arith, nat_tests)

joins_back : (a b u v : ℕ) → joins u v (a, b) ≡ joins a b (u, v)
joins_back a b u v = grind (arith, nat_tests)

one_if-sym : (p : ℕ × ℕ) (u v : ℕ) → one_if p u v ≡ one_if p v u
one_if-sym p u v = ap (λ (t : Bool). cond t 1 0) (joins_either u v p.0 p.1)

none_if : (p : ℕ × ℕ) (a b : ℕ) → joins a b p ≡ false → one_if p a b ≡ 0
none_if p a b h = cond-false _ 1 0 (joins_back a b p.0 p.1 ∙ h)

counted : (p : ℕ × ℕ) (es : List (ℕ × ℕ)) → has_step es p.0 p.1 ≡ true → 1 ≤ travelled (one_if p) es
counted p [] h = absurd (let e : false ≡ true = h in cc)
counted p (e ∷ es) h = ⊎_elim
    (λ (j : joins p.0 p.1 e ≡ true). let o : one_if p e.0 e.1 ≡ 1 = cond-true (joins p.0 p.1 e) 1 0 j in omega arith)
    (λ (j : has_step es p.0 p.1 ≡ true). let ih = counted p es j in omega arith)
    (or_cases _ _ h)

uncounted : (p : ℕ × ℕ) (es : List (ℕ × ℕ)) → 1 ≤ travelled (one_if p) es → has_step es p.0 p.1 ≡ true
uncounted p [] h = absurd (omega arith)
uncounted p (e ∷ es) h = ⊎_elim
    (λ (j : joins p.0 p.1 e ≡ true). or_left _ _ j)
    (λ (j : joins p.0 p.1 e ≡ false). let o : one_if p e.0 e.1 ≡ 0 = cond-false (joins p.0 p.1 e) 1 0 j in or_right _ _ (uncounted p es (omega arith)))
    (cases_Bool (joins p.0 p.1 e))

-- a step stays that is none of the two exchanged ones
pair_kept : (n : ℕ) (old new : List ℕ) (a b c d : ℕ) (p : ℕ × ℕ) → IsTour n old → Follows old a b → Follows old c d → (a ≡ c → ⊥) → IsFlipped old new b c
    → joins a b p ≡ false → joins c d p ≡ false → has_step (steps old) p.0 p.1 ≡ true → has_step (steps new) p.0 p.1 ≡ true
pair_kept n old new a b c d p t f g ne w ab cd h =
    let l = flip_length (one_if p) n old new a b c d (one_if-sym p) t f g ne w in
    let x = none_if p a b ab in
    let y = none_if p c d cd in
    let z : 1 ≤ tour_length (one_if p) old = counted p (steps old) h in
    uncounted p (steps new) (omega arith)

pairs_kept : (n : ℕ) (old new : List ℕ) (a b c d : ℕ) (pairs : List (ℕ × ℕ)) → IsTour n old → Follows old a b → Follows old c d → (a ≡ c → ⊥) → IsFlipped old new b c
    → has_step pairs a b ≡ false → has_step pairs c d ≡ false → AreSteps (steps old) pairs → AreSteps (steps new) pairs
pairs_kept n old new a b c d [] t f g ne w ab cd all = tt
pairs_kept n old new a b c d (p ∷ ps) t f g ne w ab cd all =
    let x = or_parts (joins a b p) (has_step ps a b) ab in
    let y = or_parts (joins c d p) (has_step ps c d) cd in
    (pair_kept n old new a b c d p t f g ne w x.0 y.0 all.0, pairs_kept n old new a b c d ps t f g ne w x.1 y.1 all.1)

-- an exchange of steps that are not fixed keeps the fixed ones
pub gain_keeps : (i : Instance) (n : ℕ) (old new : List ℕ) (x : Exchange) → IsTour n old → Gains i old x → IsFlipped old new x.b x.c
    → AreSteps (steps old) i.fixed → AreSteps (steps new) i.fixed
gain_keeps i n old new x t w f all =
    let h = free_parts _ _ w.free in
    pairs_kept n old new x.a x.b x.c x.d i.fixed t w.into w.out_of w.two f h.0 h.1 all

-- ---- looking for the fixed pairs

follows_joined : (es : List (ℕ × ℕ)) (a b : ℕ) → leads es a b ≡ true → has_step es a b ≡ true
follows_joined [] a b h = h
follows_joined (e ∷ es) a b h = ⊎_elim
    (λ (j : ((eqb e.0 a) && (eqb e.1 b)) ≡ true). or_left _ _ (or_left _ _ j))
    (λ (j : leads es a b ≡ true). or_right _ _ (follows_joined es a b j))
    (or_cases _ _ h)

pub joined_ahead : (tour : List ℕ) (a b c : ℕ) → Follows tour a c → c ≡ b → has_step (steps tour) a b ≡ true
joined_ahead tour a b c f e = follows_joined (steps tour) a b (subst (λ v. Follows tour a v) e f)

pub joined_behind : (tour : List ℕ) (a b c : ℕ) → Follows tour c a → c ≡ b → has_step (steps tour) a b ≡ true
joined_behind tour a b c f e = has_step_swap (steps tour) a b ∙ follows_joined (steps tour) b a (subst (λ v. Follows tour v a) e f)

pub pair_below : (n : ℕ) (pairs : List (ℕ × ℕ)) (k : ℕ) (d : ℕ × ℕ) → AllByRecursion (λ p. (p.0 < p.1) × (p.1 < n)) pairs → k < length pairs → (get_or pairs k d).0 < n
pair_below n [] k d all h = absurd (omega arith)
pair_below n (p ∷ ps) zero d all h = let l = all.0.0 in let m = all.0.1 in omega arith
pair_below n (p ∷ ps) (suc k) d all h = pair_below n ps k d all.1 (omega arith)

-- where the pairs from a place on are steps, all are
abbrev pub Reaches : List (ℕ × ℕ) → List (ℕ × ℕ) → ℕ → Type 0
Reaches es pairs k = AreSteps es (drop k pairs) → AreSteps es pairs

pub reaches_more : (es pairs : List (ℕ × ℕ)) (k : ℕ) (d : ℕ × ℕ) → k < length pairs → has_step es (get_or pairs k d).0 (get_or pairs k d).1 ≡ true → Reaches es pairs k → Reaches es pairs (k + 1)
reaches_more es pairs k d h s r = λ all. r (subst (AreSteps es) (sym (drop_more pairs k d h)) (s, all))

pub reaches_all : (es pairs : List (ℕ × ℕ)) (k : ℕ) → length pairs ≤ k → Reaches es pairs k → AreSteps es pairs
reaches_all es pairs k h r = r (subst (AreSteps es) (sym (drop_all k pairs h)) tt)

-- what is not free need not rest
pub not_free : (b c : Bool) (P : Type 0) → b ≡ c → b ≡ false → c ≡ true → P
not_free b c P e f g = let x : true ≡ false = sym g ∙ sym e ∙ f in absurd (cc)

pub less_at : (x y z w k l m n : ℕ) → k ≡ x → l ≡ y → m ≡ z → n ≡ w → k + l < m + n → x + y < z + w
less_at x y z w k l m n e f g h i = omega arith

pub at_most_at : (x y z w k l m n : ℕ) → k ≡ x → l ≡ y → m ≡ z → n ≡ w → k + l ≤ m + n → x + y ≤ z + w
at_most_at x y z w k l m n e f g h i = omega arith

-- where a list has a city
pub record HasAt (xs : List ℕ) (a : ℕ) : Type 0 where
  pub place : ℕ
  pub inside : place < length xs
  pub is : get_or xs place 0 ≡ a

pub has_place : (xs : List ℕ) (a : ℕ) → has xs a ≡ true → HasAt xs a
has_place [] a h = absurd (let e : false ≡ true = h in cc)
has_place (x ∷ xs) a h = ⊎_elim
    (λ (e : eqb x a ≡ true). record { place = 0; inside = omega arith; is = eqb-true x a e })
    (λ (e : has xs a ≡ true). let w = has_place xs a e in let l = w.inside in record { place = suc w.place; inside = omega arith; is = w.is })
    (or_cases (eqb x a) (has xs a) h)

-- where no pair is fixed each tour of the cities is one of the instance
pub none_to_hold : (i : Instance) (tour : List ℕ) → i.fixed ≡ [] → IsTour i.n tour → IsTourOf i tour
none_to_hold i tour e t = record { is_tour = t; holds_fixed = subst (AreSteps (steps tour)) (sym e) tt }
