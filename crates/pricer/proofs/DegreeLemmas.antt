use Rattle.std.proofs.Common.{◌≡◌, ℕ, ◌+◌, ◌<◌, ◌≤◌, Bool, true, false, cond, eqb, ltb, length, map, take, ◌&&◌, ◌||◌, List, [], ◌∷◌, ◌++◌, refl, sym, ◌∙◌, ap, subst, arith, ◌⊎◌, inr, ⊎_elim}
use Rattle.std.specs.Prelude.{ℤ, pos, ◌+ℤ◌, slice_index, get_or}
use Rattle.std.proofs.lemmas.Int.{ints}
use Rattle.std.proofs.lemmas.Bool.{or_cases, eqb-true, or_right, eq-eqb, cond_both, cases_eq, and_from, and_parts, lt-ltb, ltb-true}
use Rattle.std.proofs.lemmas.Bool.Decides.{nat_tests}
use Rattle.std.proofs.lemmas.List.{map_more, take-map}
use Rattle.tspdef.specs.Sets.{has, RisesFrom, IsSet}
use Rattle.tspdef.specs.Tours.{joins}
use Rattle.tspdef.specs.Paths.{Condition, fixed, absent, present, two, four, is_present, is_decided, IsPair, MayFollow, IsPath}
use Rattle.tspdef.specs.Closings.{Closing}
use Rattle.tspdef.specs.Rays.{degree, IsClosedUnder, IsReached, IsRay, zero_closing}
use Rattle.tspdef.proofs.SumLemmas.{sum_pairs-same, sum_pairs-add, sum_pairs-zero}
use Rattle.tspdef.proofs.Steps.{joins_is}
use Rattle.pricer.specs.Rays.{ends_at, AreDegrees, AreLabels, IsMerge, relabelled}
use Rattle.pricer.proofs.SetLemmas.{has-append}
use Rattle.pricer.proofs.TrailLemmas.{path_take}
use Rattle.pricer.proofs.RingLemmas.{reached_is_tour}
use Rattle.pricer.proofs.DecidedLemmas.{is_present-append, undecided_at, at_pair, or-false, path_front}

-- ---- degrees

one_more : (p j e : Bool) → (j ≡ true → p ≡ false) → cond ((p || (j || false)) && e) (pos 1) (pos 0) ≡ cond (p && e) (pos 1) (pos 0) +ℤ cond j (cond e (pos 1) (pos 0)) (pos 0)
one_more true true e h = let f = h refl in cc
one_more true false e h = omega (arith, ints)
one_more false true e h = omega (arith, ints)
one_more false false e h = omega (arith, ints)

as_number : (b : Bool) → cond b (pos 1) (pos 0) ≡ pos (cond b 1 0)
as_number true = refl
as_number false = refl

-- what one more used pair adds to the degree of a city
degree_used : (n : ℕ) (path all : List Condition) (a b v : ℕ) → IsPair n a b × (is_decided path a b ≡ false)
    → ((u w : ℕ) → is_present all u w ≡ is_present path u w || (joins u w (a, b) || false)) → degree n all v ≡ degree n path v +ℤ pos (cond (eqb a v || eqb b v) 1 0)
degree_used n path all a b v h used =
    let d : ℕ → ℕ → ℤ = λ u w. cond (eqb u v || eqb w v) (pos 1) (pos 0) in
    let same = sum_pairs-same (λ u w. cond (is_present all u w && (eqb u v || eqb w v)) (pos 1) (pos 0)) (λ u w. cond (is_present path u w && (eqb u v || eqb w v)) (pos 1) (pos 0) +ℤ cond (joins u w (a, b)) (d u w) (pos 0)) n
    (λ u w q l. rw (used u w) (one_more (is_present path u w) (joins u w (a, b)) (eqb u v || eqb w v) (λ j. (undecided_at path a b u w j h.1).1))) in
    let add = sum_pairs-add (λ u w. cond (is_present path u w && (eqb u v || eqb w v)) (pos 1) (pos 0)) (λ u w. cond (joins u w (a, b)) (d u w) (pos 0)) n in
    let one = at_pair d a b n h.0.0 h.0.1 in
    let number = as_number (eqb a v || eqb b v) in
    omega (arith, ints)

-- what one more condition adds to the degree of a city
pub degree_more : (n : ℕ) (path : List Condition) (c : Condition) (v : ℕ) → MayFollow n path c → degree n (path ++ c ∷ []) v ≡ degree n path v +ℤ pos (ends_at c v)
degree_more n path (fixed a b) v h = degree_used n path (path ++ fixed a b ∷ []) a b v h.0 (λ u w. is_present-append path (fixed a b ∷ []) u w)
degree_more n path (present a b) v h = degree_used n path (path ++ present a b ∷ []) a b v h (λ u w. is_present-append path (present a b ∷ []) u w)
degree_more n path (absent a b) v h =
    sum_pairs-same (λ u w. cond (is_present (path ++ absent a b ∷ []) u w && (eqb u v || eqb w v)) (pos 1) (pos 0)) (λ u w. cond (is_present path u w && (eqb u v || eqb w v)) (pos 1) (pos 0)) n
    (λ u w q l. rw (is_present-append path (absent a b ∷ []) u w) (rw (or-false (is_present path u w)) refl)) ∙ omega (arith, ints)
degree_more n path (two s) v h =
    sum_pairs-same (λ u w. cond (is_present (path ++ two s ∷ []) u w && (eqb u v || eqb w v)) (pos 1) (pos 0)) (λ u w. cond (is_present path u w && (eqb u v || eqb w v)) (pos 1) (pos 0)) n
    (λ u w q l. rw (is_present-append path (two s ∷ []) u w) (rw (or-false (is_present path u w)) refl)) ∙ omega (arith, ints)
degree_more n path (four s) v h =
    sum_pairs-same (λ u w. cond (is_present (path ++ four s ∷ []) u w && (eqb u v || eqb w v)) (pos 1) (pos 0)) (λ u w. cond (is_present path u w && (eqb u v || eqb w v)) (pos 1) (pos 0)) n
    (λ u w q l. rw (is_present-append path (four s ∷ []) u w) (rw (or-false (is_present path u w)) refl)) ∙ omega (arith, ints)

-- ---- labels

-- a list that no pair of more conditions leaves is left by none of fewer
closed_front : (n : ℕ) (path more t : _) → IsClosedUnder n (path ++ more) t → IsClosedUnder n path t
closed_front n path more t h = λ u v l m p. h u v l m (is_present-append path more u v ∙ ap (λ b. b || is_present more u v) p)

joins_own : (a b : ℕ) → joins a b (a, b) ≡ true
joins_own a b = grind (arith, nat_tests)

-- no pair is used by the condition
abbrev pub IsNoUse : Condition → Type 0
IsNoUse (fixed a b) = ⊥
IsNoUse (absent a b) = Unit {0}
IsNoUse (present a b) = ⊥
IsNoUse (two s) = Unit {0}
IsNoUse (four s) = Unit {0}

no_use : (path : List Condition) (c : Condition) (u v : ℕ) → IsNoUse c → is_present (path ++ c ∷ []) u v ≡ is_present path u v
no_use path (fixed a b) u v h = absurd h
no_use path (absent a b) u v h = is_present-append path (absent a b ∷ []) u v ∙ or-false (is_present path u v)
no_use path (present a b) u v h = absurd h
no_use path (two s) u v h = is_present-append path (two s ∷ []) u v ∙ or-false (is_present path u v)
no_use path (four s) u v h = is_present-append path (four s ∷ []) u v ∙ or-false (is_present path u v)

-- a condition that uses no pair changes no label
pub labels_same : (n : ℕ) (path : List Condition) (c : Condition) (labels : List ℕ) → IsNoUse c → AreLabels n path labels → AreLabels n (path ++ c ∷ []) labels
labels_same n path c labels h is = record {
  joined = λ u v l m p. is.joined u v l m (sym (no_use path c u v h) ∙ p);
  least = λ t closed. is.least t (closed_front n path (c ∷ []) t closed);
}

merge_same : (x y p q : ℕ) → x ≡ y → cond (eqb x p) q x ≡ cond (eqb y p) q y
merge_same x y p q e = ap (λ k. cond (eqb k p) q k) e

merge_ends : (p q : ℕ) → cond (eqb p p) q p ≡ cond (eqb q p) q q
merge_ends p q = grind (arith, nat_tests)

-- which cities have one label once two labels are one
split_label : (x y p q : ℕ) → cond (eqb x p) q x ≡ cond (eqb y p) q y → (x ≡ y) ⊎ (((x ≡ p) × (y ≡ q)) ⊎ ((x ≡ q) × (y ≡ p)))
split_label x y p q e = grind (arith, nat_tests)

-- a condition that uses a pair makes the labels of its cities one
labels_merged : (n : ℕ) (path : List Condition) (c : Condition) (a b : ℕ) (labels new : List ℕ) → ((u v : ℕ) → is_present (c ∷ []) u v ≡ joins u v (a, b) || false) → a < b → b < n
    → ((v : ℕ) → v < n → slice_index new v ≡ relabelled labels (slice_index labels a) (slice_index labels b) v)
    → AreLabels n path labels → AreLabels n (path ++ c ∷ []) new
labels_merged n path c a b labels new used ab bn each is =
    let la = slice_index labels a in
    let lb = slice_index labels b in
    record {
      joined = λ u v l m p. each u (omega arith) ∙ ⊎_elim
          (λ old. merge_same (slice_index labels u) (slice_index labels v) la lb (is.joined u v l m old))
          (λ j. ⊎_elim
          (λ e. let x = e.0 in let y = e.1 in subst (λ k. relabelled labels la lb k ≡ relabelled labels la lb v) x (subst (λ k. relabelled labels la lb a ≡ relabelled labels la lb k) y (merge_ends la lb)))
          (λ e. let x = e.0 in let y = e.1 in absurd (omega arith))
          (joins_is a b u v (⊎_elim (λ t. t) (λ f. cc) (or_cases (joins u v (a, b)) false j))))
          (or_cases (is_present path u v) (joins u v (a, b) || false) (sym (is_present-append path (c ∷ []) u v ∙ ap (λ x. is_present path u v || x) (used u v)) ∙ p))
          ∙ sym (each v m);
      least = λ t closed u v lu lv e.
          let before = closed_front n path (c ∷ []) t closed in
          let ends : has t a ≡ has t b = closed a b ab bn (is_present-append path (c ∷ []) a b ∙ ap (λ x. is_present path a b || x) (used a b) ∙ or_right _ _ (ap (λ x. x || false) (joins_own a b))) in
          ⊎_elim
          (λ same. is.least t before u v lu lv same)
          (λ other. ⊎_elim
          (λ p. is.least t before u a lu (omega arith) p.0 ∙ ends ∙ is.least t before b v bn lv (sym p.1))
          (λ p. is.least t before u b lu bn p.0 ∙ sym ends ∙ is.least t before a v (omega arith) lv (sym p.1))
          other)
          (split_label (slice_index labels u) (slice_index labels v) la lb (sym (each u lu) ∙ e ∙ each v lv));
    }

-- ---- conditions one after the other

-- one condition more
pub conds_more : {A : Type 0} (f : A → Condition) (xs : List A) (i : ℕ) (x : A) → i < length xs → x ≡ get_or xs i x → map f (take (i + 1) xs) ≡ map f (take i xs) ++ f x ∷ []
conds_more {A} f xs i x h is = map_more f xs i x h ∙ ap (λ (c : A). map f (take i xs) ++ f c ∷ []) (sym is)

-- it may come next
pub conds_follow : {A : Type 0} (f : A → Condition) (n : ℕ) (xs : List A) (i : ℕ) (x : A) → IsPath n (map f xs) → i < length xs → x ≡ get_or xs i x → MayFollow n (map f (take i xs)) (f x)
conds_follow {A} f n xs i x p h is =
    (path_front n (map f (take i xs)) (f x) (subst (λ (q : List Condition). IsPath n q) (take-map f (i + 1) xs ∙ conds_more {A = A} f xs i x h is) (path_take n (i + 1) (map f xs) p))).1

pub degree_none : (n v : ℕ) → degree n [] v ≡ pos 0
degree_none n v = sum_pairs-zero n

ends_most : (c : Condition) (v : ℕ) → ends_at c v ≤ 1
ends_most (present a b) v = cond_both (eqb a v || eqb b v) 1 0 (λ (k : ℕ). k ≤ 1) (λ _. omega arith) (λ _. omega arith)
ends_most (fixed a b) v = cond_both (eqb a v || eqb b v) 1 0 (λ (k : ℕ). k ≤ 1) (λ _. omega arith) (λ _. omega arith)
ends_most (absent a b) v = omega arith
ends_most (two s) v = omega arith
ends_most (four s) v = omega arith

-- the count of one more condition
pub count_step : (n : ℕ) (path : List Condition) (c : Condition) (v old new : ℕ) → MayFollow n path c → pos old ≡ degree n path v → new ≡ old + ends_at c v → pos new ≡ degree n (path ++ c ∷ []) v
count_step n path c v old new h so_far e = let more = degree_more n path c v h in omega (arith, ints)

pub count_small : (c : Condition) (v old new k : ℕ) → old ≤ k → new ≡ old + ends_at c v → new ≤ k + 1
count_small c v old new k h e = let most = ends_most c v in omega arith

-- the labels after one more condition
pub labels_step : (n : ℕ) (path : List Condition) (c : Condition) (old new : List ℕ) → MayFollow n path c → length old ≡ n → IsMerge c old new → AreLabels n path old → AreLabels n (path ++ c ∷ []) new
labels_step n path (fixed a b) old new h len merge is = labels_merged n path (fixed a b) a b old new (λ u v. refl) h.0.0.0 h.0.0.1 (λ v l. merge v (omega arith)) is
labels_step n path (present a b) old new h len merge is = labels_merged n path (present a b) a b old new (λ u v. refl) h.0.0 h.0.1 (λ v l. merge v (omega arith)) is
labels_step n path (absent a b) old new h len merge is = subst (AreLabels n (path ++ absent a b ∷ [])) (sym merge) (labels_same n path (absent a b) old tt is)
labels_step n path (two s) old new h len merge is = subst (AreLabels n (path ++ two s ∷ [])) (sym merge) (labels_same n path (two s) old tt is)
labels_step n path (four s) old new h len merge is = subst (AreLabels n (path ++ four s ∷ [])) (sym merge) (labels_same n path (four s) old tt is)

pub labels_none : (n : ℕ) (labels : List ℕ) → ((v : ℕ) → v < n → slice_index labels v ≡ v) → AreLabels n [] labels
labels_none n labels own = record {
  joined = λ u v l m p. cc;
  least = λ t closed u v lu lv e. ap (has t) (sym (own u lu) ∙ e ∙ own v lv);
}

-- ---- the cities of one label

pub set_push : (n m : ℕ) (xs : List ℕ) → m ≤ n → RisesFrom n m xs → RisesFrom (n + 1) m (xs ++ n ∷ [])
set_push n m [] l r = ((l, omega arith), tt)
set_push n m (x ∷ xs) l r = let a = r.0.0 in let b = r.0.1 in ((a, omega arith), set_push n (x + 1) xs (omega arith) r.1)

pub set_wider : (n m : ℕ) (xs : List ℕ) → RisesFrom n m xs → RisesFrom (n + 1) m xs
set_wider n m [] r = tt
set_wider n m (x ∷ xs) r = let a = r.0.0 in let b = r.0.1 in ((a, omega arith), set_wider n (x + 1) xs r.1)

pub member_more : (xs : List ℕ) (q : ℕ → Bool) (v c : ℕ) → q v ≡ true → has xs c ≡ (ltb c v && q c) → has (xs ++ v ∷ []) c ≡ (ltb c (v + 1) && q c)
member_more xs q v c wanted h = has-append xs (v ∷ []) c ∙ ap (λ b. b || (eqb v c || false)) h ∙ ⊎_elim
    (λ e. let at_v : q c ≡ true = subst (λ k. q k ≡ true) (sym e) wanted in grind (arith, nat_tests))
    (λ ne. grind (arith, nat_tests))
    (cases_eq c v)

pub member_same : (xs : List ℕ) (q : ℕ → Bool) (v c : ℕ) → q v ≡ false → has xs c ≡ (ltb c v && q c) → has xs c ≡ (ltb c (v + 1) && q c)
member_same xs q v c none h = h ∙ ⊎_elim
    (λ e. let at_v : q c ≡ false = subst (λ k. q k ≡ false) (sym e) none in grind (arith, nat_tests))
    (λ ne. grind (arith, nat_tests))
    (cases_eq c v)

-- the cities with the label of city 0 are those that are reached from it
pub reached_from_labels : (n : ℕ) (path : List Condition) (labels s : List ℕ) → 1 ≤ n → AreLabels n path labels → IsSet n s
    → ((c : ℕ) → has s c ≡ (ltb c n && eqb (slice_index labels c) (slice_index labels 0))) → IsReached n path s
reached_from_labels n path labels s some is set members = record {
  set = set;
  home = members 0 ∙ and_from _ _ (lt-ltb 0 n (omega arith)) (eq-eqb _ _ refl);
  closed = λ u v l m p.
      let same = is.joined u v l m p in
      members u ∙ ap (λ b. b && eqb (slice_index labels u) (slice_index labels 0)) (lt-ltb u n (omega arith) ∙ sym (lt-ltb v n m)) ∙ ap (λ k. ltb v n && eqb k (slice_index labels 0)) same ∙ sym (members v);
  least = λ t home closed c h.
      let both = and_parts (ltb c n) (eqb (slice_index labels c) (slice_index labels 0)) (sym (members c) ∙ h) in
      is.least t closed c 0 (ltb-true c n both.0) (omega arith) (eqb-true _ _ both.1) ∙ home;
}

-- ---- the ray of a tour

pub exactly_two : (n : ℕ) (path : List Condition) (degrees : List ℕ) → AreDegrees n path degrees
    → ((v : ℕ) → v < length degrees → 2 ≤ slice_index degrees v) → ((v : ℕ) → v < length degrees → slice_index degrees v ≤ 2) → (v : ℕ) → v < n → degree n path v ≡ pos 2
exactly_two n path degrees d low high v l =
    let long = d.long in
    let inside : v < length degrees = omega arith in
    let a = low v inside in
    let b = high v inside in
    let exact : slice_index degrees v ≡ 2 = omega arith in
    sym (d.each v l) ∙ ap pos exact

pub tour_ray : (n : ℕ) (path : List Condition) (s : List ℕ) (best : ℕ) (c : Closing) → 3 ≤ n → IsPath n path → ((v : ℕ) → v < n → degree n path v ≡ pos 2)
    → IsReached n path s → n ≤ length s → c ≡ zero_closing n → IsRay n path best c
tour_ray n path s best c many is pair reached full e =
    let tour = reached_is_tour n path s (omega arith) is pair reached full in
    inr (inr (inr (tour.0, record { is_tour = tour.1.0; used = tour.1.1; closing = e })))
