-- the tests decide the definitions
use Rattle.std.proofs.Common.{◌≡◌, ℕ, ◌+◌, ◌-◌, ◌%◌, ◌<◌, ◌≤◌, Bool, true, false, not, ◌&&◌, List, [], ◌∷◌, length, ℤ, refl, arith, ◌⊎◌, inl, inr, ⊎_elim}
use Rattle.std.specs.Prelude.{nat_le, nat_lt, ◌==◌, ◌||◌, ◌<ℤ◌}
use Rattle.std.specs.Int.Signed.{lt_z}
use Rattle.std.specs.List.{AllByRecursion}
use Rattle.std.proofs.lemmas.Int.{ints}
use Rattle.std.proofs.lemmas.Bool.{and_parts, and_from, eq-eqb, eqb-true, leb-true, le-leb, ltb-true, lt-ltb, not-true}
use Rattle.tspdef.specs.Sets.{has, RisesFrom, IsProper, meet, meets_any, AreDisjoint, leaves}
use Rattle.tspdef.specs.Tours.{AreDistinct, IsTour, steps, has_step, last_city, crosses, IsCanonical}
use Rattle.tspdef.specs.Fixed.{AreSteps, IsPairBefore, PairsRise, AreRisingPairs}
use Rattle.tspdef.specs.Instances.{Instance, IsTourOf}
use Rattle.tspdef.specs.Cuts.{Cut, subtour, comb, odd, IsTooth, IsComb, IsOdd, IsCut, most_pairs}
use Rattle.tspdef.specs.Paths.{Condition, fixed, absent, present, two, four, IsClique}
use Rattle.std.specs.Prelude.{Option, Some, None}
use Rattle.certdef.specs.Items.{rises, each_below, is_before, pairs_rise_from, pairs_rise}
use Rattle.tspdef.specs.Bounds.{bound, needed}
use Rattle.certdef.specs.Accepted.{from_zero, cuts_of, closing_of, is_clique}
use Rattle.verdict.specs.Decided.{IsTourFromOne, ToursAreDecided, StepsAreDecided, ToursOfInstancesAreDecided, CanonicalIsDecided, ToursFromOneAreDecided, ProperIsDecided, CutsAreDecided, CliquesAreDecided, ClosedLeavesAreDecided}
use Rattle.certdef.specs.Tests.{each_positive, are_distinct, is_tour, are_steps, is_tour_of, is_canonical, is_tour_from_one, is_proper, are_disjoint, are_teeth, are_pairs, each_crosses, are_odd_pairs, is_cut}

not_true : (b : Bool) → b ≡ false → not b ≡ true
not_true true e = cc
not_true false e = refl

-- ---- tours

below_yes : (n : ℕ) (cs : List ℕ) → each_below n cs ≡ true → AllByRecursion (λ c. c < n) cs
below_yes n [] e = tt
below_yes n (c ∷ cs) e = let p = and_parts (nat_lt c n) (each_below n cs) e in (ltb-true c n p.0, below_yes n cs p.1)

yes_below : (n : ℕ) (cs : List ℕ) → AllByRecursion (λ c. c < n) cs → each_below n cs ≡ true
yes_below n [] h = refl
yes_below n (c ∷ cs) h = and_from (nat_lt c n) (each_below n cs) (lt-ltb c n h.0) (yes_below n cs h.1)

distinct_yes : (cs : List ℕ) → are_distinct cs ≡ true → AreDistinct cs
distinct_yes [] e = tt
distinct_yes (c ∷ cs) e = let p = and_parts (not (has cs c)) (are_distinct cs) e in (not-true (has cs c) p.0, distinct_yes cs p.1)

yes_distinct : (cs : List ℕ) → AreDistinct cs → are_distinct cs ≡ true
yes_distinct [] h = refl
yes_distinct (c ∷ cs) h = and_from (not (has cs c)) (are_distinct cs) (not_true (has cs c) h.0) (yes_distinct cs h.1)

pub tour_yes : (n : ℕ) (cs : List ℕ) → is_tour n cs ≡ true → IsTour n cs
tour_yes n cs e =
    let p = and_parts (length cs == n) (each_below n cs && are_distinct cs) e in
    let q = and_parts (each_below n cs) (are_distinct cs) p.1 in
    record { all = eqb-true (length cs) n p.0; below = below_yes n cs q.0; distinct = distinct_yes cs q.1 }

pub yes_tour : (n : ℕ) (cs : List ℕ) → IsTour n cs → is_tour n cs ≡ true
yes_tour n cs h = and_from (length cs == n) (each_below n cs && are_distinct cs) (eq-eqb (length cs) n h.all) (and_from (each_below n cs) (are_distinct cs) (yes_below n cs h.below) (yes_distinct cs h.distinct))

pub steps_yes : (es pairs : List (ℕ × ℕ)) → are_steps es pairs ≡ true → AreSteps es pairs
steps_yes es [] e = tt
steps_yes es (p ∷ ps) e = let q = and_parts (has_step es p.0 p.1) (are_steps es ps) e in (q.0, steps_yes es ps q.1)

pub yes_steps : (es pairs : List (ℕ × ℕ)) → AreSteps es pairs → are_steps es pairs ≡ true
yes_steps es [] h = refl
yes_steps es (p ∷ ps) h = and_from (has_step es p.0 p.1) (are_steps es ps) h.0 (yes_steps es ps h.1)

pub tour_of_yes : (i : Instance) (cs : List ℕ) → is_tour_of i cs ≡ true → IsTourOf i cs
tour_of_yes i cs e =
    let p = and_parts (is_tour i.n cs) (are_steps (steps cs) i.fixed) e in
    record { is_tour = tour_yes i.n cs p.0; holds_fixed = steps_yes (steps cs) i.fixed p.1 }

pub yes_tour_of : (i : Instance) (cs : List ℕ) → IsTourOf i cs → is_tour_of i cs ≡ true
yes_tour_of i cs h = and_from (is_tour i.n cs) (are_steps (steps cs) i.fixed) (yes_tour i.n cs h.is_tour) (yes_steps (steps cs) i.fixed h.holds_fixed)

pub canonical_yes : (cs : List ℕ) → is_canonical cs ≡ true → IsCanonical cs
canonical_yes [] e = cc
canonical_yes (a ∷ []) e = cc
canonical_yes (a ∷ b ∷ cs) e = let p = and_parts (a == 0) (nat_lt b (last_city b cs)) e in (eqb-true a 0 p.0, ltb-true b (last_city b cs) p.1)

pub yes_canonical : (cs : List ℕ) → IsCanonical cs → is_canonical cs ≡ true
yes_canonical [] h = absurd h
yes_canonical (a ∷ []) h = absurd h
yes_canonical (a ∷ b ∷ cs) h = and_from (a == 0) (nat_lt b (last_city b cs)) (eq-eqb a 0 h.0) (lt-ltb b (last_city b cs) h.1)

pub positive_yes : (cs : List ℕ) → each_positive cs ≡ true → AllByRecursion (λ c. 1 ≤ c) cs
positive_yes [] e = tt
positive_yes (c ∷ cs) e = let p = and_parts (nat_lt 0 c) (each_positive cs) e in (ltb-true 0 c p.0, positive_yes cs p.1)

pub yes_positive : (cs : List ℕ) → AllByRecursion (λ c. 1 ≤ c) cs → each_positive cs ≡ true
yes_positive [] h = refl
yes_positive (c ∷ cs) h = and_from (nat_lt 0 c) (each_positive cs) (lt-ltb 0 c h.0) (yes_positive cs h.1)

pub tour_from_one_yes : (i : Instance) (cs : List ℕ) → is_tour_from_one i cs ≡ true → IsTourFromOne i cs
tour_from_one_yes i cs e =
    let p = and_parts (each_positive cs) (is_tour_of i (from_zero cs) && is_canonical (from_zero cs)) e in
    let q = and_parts (is_tour_of i (from_zero cs)) (is_canonical (from_zero cs)) p.1 in
    record { from_one = positive_yes cs p.0; is_tour = tour_of_yes i (from_zero cs) q.0; canonical = canonical_yes (from_zero cs) q.1 }

pub yes_tour_from_one : (i : Instance) (cs : List ℕ) → AllByRecursion (λ c. 1 ≤ c) cs → IsTourOf i (from_zero cs) → IsCanonical (from_zero cs) → is_tour_from_one i cs ≡ true
yes_tour_from_one i cs p t c = and_from (each_positive cs) (is_tour_of i (from_zero cs) && is_canonical (from_zero cs)) (yes_positive cs p)
    (and_from (is_tour_of i (from_zero cs)) (is_canonical (from_zero cs)) (yes_tour_of i (from_zero cs) t) (yes_canonical (from_zero cs) c))

-- ---- sets

rises_yes : (n from : ℕ) (cs : List ℕ) → 0 < n → rises from (n - 1) cs ≡ true → RisesFrom n from cs
rises_yes n from [] some e = tt
rises_yes n from (c ∷ cs) some e =
    let p = and_parts (nat_le from c && nat_le c (n - 1)) (rises (c + 1) (n - 1) cs) e in
    let q = and_parts (nat_le from c) (nat_le c (n - 1)) p.0 in
    let high = leb-true c (n - 1) q.1 in
    ((leb-true from c q.0, omega arith), rises_yes n (c + 1) cs some p.1)

yes_rises : (n from : ℕ) (cs : List ℕ) → RisesFrom n from cs → rises from (n - 1) cs ≡ true
yes_rises n from [] h = refl
yes_rises n from (c ∷ cs) h =
    let high = h.0.1 in
    and_from (nat_le from c && nat_le c (n - 1)) (rises (c + 1) (n - 1) cs) (and_from (nat_le from c) (nat_le c (n - 1)) (le-leb from c h.0.0) (le-leb c (n - 1) (omega arith))) (yes_rises n (c + 1) cs h.1)

pub proper_yes : (n : ℕ) (s : List ℕ) → is_proper n s ≡ true → IsProper n s
proper_yes n s e =
    let p = and_parts (rises 0 (n - 1) s) (nat_lt 0 (length s) && nat_lt (length s) n) e in
    let q = and_parts (nat_lt 0 (length s)) (nat_lt (length s) n) p.1 in
    let few = ltb-true (length s) n q.1 in
    record { set = rises_yes n 0 s (omega arith) p.0; some = ltb-true 0 (length s) q.0; not_all = few }

pub yes_proper : (n : ℕ) (s : List ℕ) → IsProper n s → is_proper n s ≡ true
yes_proper n s h = and_from (rises 0 (n - 1) s) (nat_lt 0 (length s) && nat_lt (length s) n) (yes_rises n 0 s h.set) (and_from (nat_lt 0 (length s)) (nat_lt (length s) n) (lt-ltb 0 (length s) h.some) (lt-ltb (length s) n h.not_all))

-- ---- cuts

disjoint_yes : (ts : List (List ℕ)) → are_disjoint ts ≡ true → AreDisjoint ts
disjoint_yes [] e = tt
disjoint_yes (t ∷ ts) e = let p = and_parts (not (meets_any t ts)) (are_disjoint ts) e in (not-true (meets_any t ts) p.0, disjoint_yes ts p.1)

yes_disjoint : (ts : List (List ℕ)) → AreDisjoint ts → are_disjoint ts ≡ true
yes_disjoint [] h = refl
yes_disjoint (t ∷ ts) h = and_from (not (meets_any t ts)) (are_disjoint ts) (not_true (meets_any t ts) h.0) (yes_disjoint ts h.1)

teeth_yes : (n : ℕ) (h : List ℕ) (ts : List (List ℕ)) → 0 < n → are_teeth n h ts ≡ true → AllByRecursion (IsTooth n h) ts
teeth_yes n h [] some e = tt
teeth_yes n h (t ∷ ts) some e =
    let p = and_parts (rises 0 (n - 1) t && (meet t h && leaves t h)) (are_teeth n h ts) e in
    let q = and_parts (rises 0 (n - 1) t) (meet t h && leaves t h) p.0 in
    let r = and_parts (meet t h) (leaves t h) q.1 in
    (record { set = rises_yes n 0 t some q.0; inside = r.0; outside = r.1 }, teeth_yes n h ts some p.1)

yes_teeth : (n : ℕ) (h : List ℕ) (ts : List (List ℕ)) → AllByRecursion (IsTooth n h) ts → are_teeth n h ts ≡ true
yes_teeth n h [] k = refl
yes_teeth n h (t ∷ ts) k =
    let tooth = k.0 in
    and_from (rises 0 (n - 1) t && (meet t h && leaves t h)) (are_teeth n h ts)
    (and_from (rises 0 (n - 1) t) (meet t h && leaves t h) (yes_rises n 0 t tooth.set) (and_from (meet t h) (leaves t h) tooth.inside tooth.outside)) (yes_teeth n h ts k.1)

comb_yes : (n : ℕ) (h : List ℕ) (ts : List (List ℕ)) → is_proper n h && ((length ts % 2 == 1) && (nat_le 3 (length ts) && (are_teeth n h ts && are_disjoint ts))) ≡ true → IsComb n h ts
comb_yes n h ts e =
    let p = and_parts (is_proper n h) ((length ts % 2 == 1) && (nat_le 3 (length ts) && (are_teeth n h ts && are_disjoint ts))) e in
    let q = and_parts (length ts % 2 == 1) (nat_le 3 (length ts) && (are_teeth n h ts && are_disjoint ts)) p.1 in
    let r = and_parts (nat_le 3 (length ts)) (are_teeth n h ts && are_disjoint ts) q.1 in
    let s = and_parts (are_teeth n h ts) (are_disjoint ts) r.1 in
    let proper = proper_yes n h p.0 in
    let few = proper.not_all in
    record { proper = proper; odd = eqb-true (length ts % 2) 1 q.0; many = leb-true 3 (length ts) r.0; each_tooth = teeth_yes n h ts (omega arith) s.0; disjoint = disjoint_yes ts s.1 }

yes_comb : (n : ℕ) (h : List ℕ) (ts : List (List ℕ)) → IsComb n h ts → is_proper n h && ((length ts % 2 == 1) && (nat_le 3 (length ts) && (are_teeth n h ts && are_disjoint ts))) ≡ true
yes_comb n h ts k =
    and_from (is_proper n h) ((length ts % 2 == 1) && (nat_le 3 (length ts) && (are_teeth n h ts && are_disjoint ts))) (yes_proper n h k.proper)
    (and_from (length ts % 2 == 1) (nat_le 3 (length ts) && (are_teeth n h ts && are_disjoint ts)) (eq-eqb (length ts % 2) 1 k.odd)
    (and_from (nat_le 3 (length ts)) (are_teeth n h ts && are_disjoint ts) (le-leb 3 (length ts) k.many)
    (and_from (are_teeth n h ts) (are_disjoint ts) (yes_teeth n h ts k.each_tooth) (yes_disjoint ts k.disjoint))))

pairs_yes : (n : ℕ) (ps : List (ℕ × ℕ)) → are_pairs n ps ≡ true → AllByRecursion (λ p. (p.0 < p.1) × (p.1 < n)) ps
pairs_yes n [] e = tt
pairs_yes n (p ∷ ps) e =
    let q = and_parts (nat_lt p.0 p.1 && nat_lt p.1 n) (are_pairs n ps) e in
    let r = and_parts (nat_lt p.0 p.1) (nat_lt p.1 n) q.0 in
    ((ltb-true p.0 p.1 r.0, ltb-true p.1 n r.1), pairs_yes n ps q.1)

yes_pairs : (n : ℕ) (ps : List (ℕ × ℕ)) → AllByRecursion (λ p. (p.0 < p.1) × (p.1 < n)) ps → are_pairs n ps ≡ true
yes_pairs n [] h = refl
yes_pairs n (p ∷ ps) h =
    and_from (nat_lt p.0 p.1 && nat_lt p.1 n) (are_pairs n ps) (and_from (nat_lt p.0 p.1) (nat_lt p.1 n) (lt-ltb p.0 p.1 h.0.0) (lt-ltb p.1 n h.0.1)) (yes_pairs n ps h.1)

or_parts : (a b : Bool) → a || b ≡ true → (a ≡ true) ⊎ (b ≡ true)
or_parts true b e = inl refl
or_parts false b e = inr e

or_left : (a b : Bool) → a ≡ true → a || b ≡ true
or_left true b e = refl
or_left false b e = cc

or_right : (a b : Bool) → b ≡ true → a || b ≡ true
or_right true b e = refl
or_right false b e = e

before_yes : (p q : ℕ × ℕ) → is_before p q ≡ true → IsPairBefore p q
before_yes p q e = ⊎_elim
    (λ l. inl (ltb-true p.0 q.0 l))
    (λ r. let t = and_parts (p.0 == q.0) (nat_lt p.1 q.1) r in inr (eqb-true p.0 q.0 t.0, ltb-true p.1 q.1 t.1))
    (or_parts (nat_lt p.0 q.0) ((p.0 == q.0) && nat_lt p.1 q.1) e)

yes_before : (p q : ℕ × ℕ) → IsPairBefore p q → is_before p q ≡ true
yes_before p q h = ⊎_elim
    (λ l. or_left (nat_lt p.0 q.0) ((p.0 == q.0) && nat_lt p.1 q.1) (lt-ltb p.0 q.0 l))
    (λ r. or_right (nat_lt p.0 q.0) ((p.0 == q.0) && nat_lt p.1 q.1) (and_from (p.0 == q.0) (nat_lt p.1 q.1) (eq-eqb p.0 q.0 r.0) (lt-ltb p.1 q.1 r.1)))
    h

rise_from_yes : (p : ℕ × ℕ) (qs : List (ℕ × ℕ)) → pairs_rise_from p qs ≡ true → PairsRise p qs
rise_from_yes p [] e = tt
rise_from_yes p (q ∷ qs) e = let t = and_parts (is_before p q) (pairs_rise_from q qs) e in (before_yes p q t.0, rise_from_yes q qs t.1)

yes_rise_from : (p : ℕ × ℕ) (qs : List (ℕ × ℕ)) → PairsRise p qs → pairs_rise_from p qs ≡ true
yes_rise_from p [] h = refl
yes_rise_from p (q ∷ qs) h = and_from (is_before p q) (pairs_rise_from q qs) (yes_before p q h.0) (yes_rise_from q qs h.1)

rise_yes : (ps : List (ℕ × ℕ)) → pairs_rise ps ≡ true → AreRisingPairs ps
rise_yes [] e = tt
rise_yes (p ∷ ps) e = rise_from_yes p ps e

yes_rise : (ps : List (ℕ × ℕ)) → AreRisingPairs ps → pairs_rise ps ≡ true
yes_rise [] h = refl
yes_rise (p ∷ ps) h = yes_rise_from p ps h

crosses_yes : (h : List ℕ) (ps : List (ℕ × ℕ)) → each_crosses h ps ≡ true → AllByRecursion (λ p. crosses (has h) p ≡ true) ps
crosses_yes h [] e = tt
crosses_yes h (p ∷ ps) e = let t = and_parts (crosses (has h) p) (each_crosses h ps) e in (t.0, crosses_yes h ps t.1)

yes_crosses : (h : List ℕ) (ps : List (ℕ × ℕ)) → AllByRecursion (λ p. crosses (has h) p ≡ true) ps → each_crosses h ps ≡ true
yes_crosses h [] k = refl
yes_crosses h (p ∷ ps) k = and_from (crosses (has h) p) (each_crosses h ps) k.0 (yes_crosses h ps k.1)

odd_yes : (n : ℕ) (h : List ℕ) (ps : List (ℕ × ℕ)) → is_proper n h && are_odd_pairs n h ps ≡ true → IsOdd n h ps
odd_yes n h ps e =
    let p = and_parts (is_proper n h) (are_odd_pairs n h ps) e in
    let q = and_parts (length ps % 2 == 1) (nat_le (length ps) most_pairs && (are_pairs n ps && (pairs_rise ps && each_crosses h ps))) p.1 in
    let r = and_parts (nat_le (length ps) most_pairs) (are_pairs n ps && (pairs_rise ps && each_crosses h ps)) q.1 in
    let s = and_parts (are_pairs n ps) (pairs_rise ps && each_crosses h ps) r.1 in
    let t = and_parts (pairs_rise ps) (each_crosses h ps) s.1 in
    record {
      proper = proper_yes n h p.0;
      odd = eqb-true (length ps % 2) 1 q.0;
      few = leb-true (length ps) most_pairs r.0;
      below = pairs_yes n ps s.0;
      rising = rise_yes ps t.0;
      crossed = crosses_yes h ps t.1;
    }

yes_odd : (n : ℕ) (h : List ℕ) (ps : List (ℕ × ℕ)) → IsOdd n h ps → is_proper n h && are_odd_pairs n h ps ≡ true
yes_odd n h ps k =
    and_from (is_proper n h) (are_odd_pairs n h ps) (yes_proper n h k.proper)
    (and_from (length ps % 2 == 1) (nat_le (length ps) most_pairs && (are_pairs n ps && (pairs_rise ps && each_crosses h ps))) (eq-eqb (length ps % 2) 1 k.odd)
    (and_from (nat_le (length ps) most_pairs) (are_pairs n ps && (pairs_rise ps && each_crosses h ps)) (le-leb (length ps) most_pairs k.few)
    (and_from (are_pairs n ps) (pairs_rise ps && each_crosses h ps) (yes_pairs n ps k.below)
    (and_from (pairs_rise ps) (each_crosses h ps) (yes_rise ps k.rising) (yes_crosses h ps k.crossed)))))

pub cut_yes : (n : ℕ) (c : Cut) → is_cut n c ≡ true → IsCut n c
cut_yes n (subtour m s) e = let p = and_parts (m == n) (is_proper n s) e in (eqb-true m n p.0, proper_yes n s p.1)
cut_yes n (comb m h ts) e =
    let p = and_parts (m == n) (is_proper n h && ((length ts % 2 == 1) && (nat_le 3 (length ts) && (are_teeth n h ts && are_disjoint ts)))) e in
    (eqb-true m n p.0, comb_yes n h ts p.1)
cut_yes n (odd m h ps) e =
    let p = and_parts (m == n) (is_proper n h && are_odd_pairs n h ps) e in
    (eqb-true m n p.0, odd_yes n h ps p.1)

pub yes_cut : (n : ℕ) (c : Cut) → IsCut n c → is_cut n c ≡ true
yes_cut n (subtour m s) k = and_from (m == n) (is_proper n s) (eq-eqb m n k.0) (yes_proper n s k.1)
yes_cut n (comb m h ts) k =
    and_from (m == n) (is_proper n h && ((length ts % 2 == 1) && (nat_le 3 (length ts) && (are_teeth n h ts && are_disjoint ts)))) (eq-eqb m n k.0) (yes_comb n h ts k.1)
yes_cut n (odd m h ps) k = and_from (m == n) (is_proper n h && are_odd_pairs n h ps) (eq-eqb m n k.0) (yes_odd n h ps k.1)

-- ---- conditions and bounds

pub clique_yes : (c : Option Condition) → is_clique c ≡ true → IsClique c
clique_yes None e = cc
clique_yes (Some (fixed u v)) e = cc
clique_yes (Some (absent u v)) e = cc
clique_yes (Some (present u v)) e = cc
clique_yes (Some (two s)) e = tt
clique_yes (Some (four s)) e = tt

pub below_z : (a b : ℤ) → lt_z a b ≡ true → a <ℤ b
below_z a b e = grind (arith, ints)

pub z_below : (a b : ℤ) → a <ℤ b → lt_z a b ≡ true
z_below a b h = grind (arith, ints)

-- ---- each test, forth and back

pub yes_clique : (c : Option Condition) → IsClique c → is_clique c ≡ true
yes_clique None h = absurd h
yes_clique (Some (fixed u v)) h = absurd h
yes_clique (Some (absent u v)) h = absurd h
yes_clique (Some (present u v)) h = absurd h
yes_clique (Some (two s)) h = refl
yes_clique (Some (four s)) h = refl

pub tours_are_decided : ToursAreDecided
tours_are_decided n cs = (tour_yes n cs, yes_tour n cs)

pub steps_are_decided : StepsAreDecided
steps_are_decided es pairs = (steps_yes es pairs, yes_steps es pairs)

pub tours_of_instances_are_decided : ToursOfInstancesAreDecided
tours_of_instances_are_decided i cs = (tour_of_yes i cs, yes_tour_of i cs)

pub canonical_is_decided : CanonicalIsDecided
canonical_is_decided cs = (canonical_yes cs, yes_canonical cs)

pub tours_from_one_are_decided : ToursFromOneAreDecided
tours_from_one_are_decided i cs = (tour_from_one_yes i cs, λ k. yes_tour_from_one i cs k.from_one k.is_tour k.canonical)

pub proper_is_decided : ProperIsDecided
proper_is_decided n s = (proper_yes n s, yes_proper n s)

pub cuts_are_decided : CutsAreDecided
cuts_are_decided n c = (cut_yes n c, yes_cut n c)

pub cliques_are_decided : CliquesAreDecided
cliques_are_decided c = (clique_yes c, yes_clique c)

pub closed_leaves_are_decided : ClosedLeavesAreDecided
closed_leaves_are_decided i b cs path d =
    let c = bound i path (closing_of i.n (cuts_of i.n cs) d) in
    (below_z (needed b) c, z_below (needed b) c)
