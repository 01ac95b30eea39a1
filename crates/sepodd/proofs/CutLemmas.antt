-- The best side, its pairs and its handle are an odd cut of its weight.
use Rattle.std.proofs.Common.{◌≡◌, ℕ, ◌+◌, ◌<◌, ◌≤◌, Bool, true, false, not, cond, ◌&&◌, ◌||◌, ◌==◌, List, [], ◌∷◌, length, pos, refl, sym, ap, ◌∙◌, subst, arith, ⊎_elim, ◌⊎◌, inl, inr, Option, Some, None}
use Rattle.std.specs.List.{AllByRecursion}
use Rattle.std.proofs.lemmas.Int.{ints}
use Rattle.std.proofs.lemmas.Bool.{cases_Bool, cases_lt, false≢true, cond-true}
use Rattle.tspdef.specs.Sets.{has, IsSet, IsProper}
use Rattle.tspdef.specs.Tours.{joins, crosses, has_step}
use Rattle.tspdef.specs.Cuts.{IsOdd}
use Rattle.tspdef.proofs.Steps.{joins_is, has_step_swap}
use Rattle.cyc.specs.declared.frac.Entry.{Entry}
use Rattle.cyc.specs.Frac.{Values, value_of, is_listed, IsEntry, AreEntries}
use Rattle.cyc.proofs.EntryLemmas.{listed_same, value_unlisted}
use Rattle.cyc.proofs.ListLemmas.{or_comm}
use Rattle.maxflow.specs.Crossings.{crossing}
use Rattle.maxflow.proofs.CrossingLemmas.{weight_by_entries}
use Rattle.maxflow.proofs.SideLemmas.{proper_from}
use Rattle.sepodd.specs.Folding.{is_over, differ}
use Rattle.sepodd.specs.Odd.{odd_weight, IsRelaxed}
use Rattle.sepodd.specs.Sides.{HasWeight, is_turned, is_chosen}
use Rattle.sepodd.specs.Cuts.{ArePairsTo}
use Rattle.sepodd.proofs.SubmodularLemmas.{crossing_not, crossing_within}
use Rattle.sepodd.proofs.ChoiceLemmas.{AreSmall, cost, count, chosen_odd, unlisted, pairs_count, rising_are_distinct, count_by_odd, differ_turn}
use Rattle.sepodd.proofs.ChosenLemmas.{IsChoice, none_turned, one_turned}
use Rattle.sepodd.proofs.DegreeLemmas.{overs, overs_at_most}
use Rattle.sepodd.proofs.KnownLemmas.{IsTold, all_told}
use Rattle.sepodd.proofs.LowerLemmas.{weight_is_cost}

-- ---- the choice of a pair, in either order

value_swap : (es : List Entry) (u v : ℕ) → value_of es u v ≡ value_of es v u
value_swap [] u v = refl
value_swap (e ∷ es) u v =
    ap (λ (b : Bool). cond b e.x (value_of es u v)) (or_comm ((e.u == u) && (e.v == v)) ((e.u == v) && (e.v == u)))
    ∙ ap (λ (w : ℕ). cond (joins v u (e.u, e.v)) e.x w) (value_swap es u v)

turned_swap : (t : Option (ℕ × ℕ)) (u v : ℕ) → is_turned t u v ≡ is_turned t v u
turned_swap None u v = refl
turned_swap (Some f) u v = or_comm ((f.0 == u) && (f.1 == v)) ((f.0 == v) && (f.1 == u))

chosen_swap : (es : List Entry) (t : Option (ℕ × ℕ)) (u v : ℕ) → is_chosen es t u v ≡ is_chosen es t v u
chosen_swap es t u v = ap (λ (w : ℕ). differ (is_over w) (is_turned t u v)) (value_swap es u v) ∙ ap (λ (b : Bool). differ (is_over (value_of es v u)) b) (turned_swap t u v)

-- a pair that is listed is chosen
step_chosen : (es : List Entry) (t : Option (ℕ × ℕ)) (ps : List (ℕ × ℕ)) (u v : ℕ) → AllByRecursion (λ q. is_chosen es t q.0 q.1 ≡ true) ps → has_step ps u v ≡ true → is_chosen es t u v ≡ true
step_chosen es t [] u v a h = absurd (false≢true h)
step_chosen es t (q ∷ ps) u v a h = ⊎_elim
    (λ (j : joins u v q ≡ true). ⊎_elim
    (λ e. subst (λ i. is_chosen es t i v ≡ true) e.0 (subst (λ i. is_chosen es t q.0 i ≡ true) e.1 a.0))
    (λ e. chosen_swap es t u v ∙ subst (λ i. is_chosen es t i u ≡ true) e.0 (subst (λ i. is_chosen es t q.0 i ≡ true) e.1 a.0))
    (joins_is q.0 q.1 u v j))
    (λ (j : joins u v q ≡ false). step_chosen es t ps u v a.1 (sym (ap (λ (b : Bool). b || has_step ps u v) j) ∙ h))
    (cases_Bool (joins u v q))

both_or : (a b : Bool) → (a ≡ true → b ≡ true) → (b ≡ true → a ≡ true) → a ≡ b
both_or true b f g = sym (f refl)
both_or false true f g = g refl
both_or false false f g = refl

listed_case : (es : List Entry) (t : Option (ℕ × ℕ)) (q : ℕ × ℕ) → ((f : ℕ × ℕ) → t ≡ Some f → is_listed es f.0 f.1 ≡ true) → is_chosen es t q.0 q.1 ≡ true → is_listed es q.0 q.1 ≡ true
listed_case es t q known h = ⊎_elim
    (λ (l : is_listed es q.0 q.1 ≡ true). l)
    (λ (l : is_listed es q.0 q.1 ≡ false).
    let low : is_over (value_of es q.0 q.1) ≡ false = ap is_over (value_unlisted es q.0 q.1 l) in
    let turned : is_turned t q.0 q.1 ≡ true = sym (ap (λ (b : Bool). differ b (is_turned t q.0 q.1)) low) ∙ h in
    by_turned t known turned)
    (cases_Bool (is_listed es q.0 q.1))
  where
    by_turned : (t : Option (ℕ × ℕ)) → ((f : ℕ × ℕ) → t ≡ Some f → is_listed es f.0 f.1 ≡ true) → is_turned t q.0 q.1 ≡ true → is_listed es q.0 q.1 ≡ true
    by_turned None known h = absurd (false≢true h)
    by_turned (Some f) known h = listed_same es q.0 q.1 f.0 f.1 h ∙ known f refl

none_unlisted : (es : List Entry) (t : Option (ℕ × ℕ)) (ps : List (ℕ × ℕ)) → ((f : ℕ × ℕ) → t ≡ Some f → is_listed es f.0 f.1 ≡ true) → AllByRecursion (λ q. is_chosen es t q.0 q.1 ≡ true) ps → unlisted es ps ≡ 0
none_unlisted es t [] known a = refl
none_unlisted es t (q ∷ ps) known a =
    let l = listed_case es t q known a.0 in
    let rest = none_unlisted es t ps known a.1 in
    let c : cond {A = ℕ} (is_listed es q.0 q.1) 0 1 ≡ 0 = cond-true (is_listed es q.0 q.1) 0 1 l in
    omega (arith, rest, c)

-- ---- the handle

side_case : (a b z : Bool) → differ (not (differ a z)) (not (differ b z)) ≡ differ a b
side_case true true true = refl
side_case true true false = refl
side_case true false true = refl
side_case true false false = refl
side_case false true true = refl
side_case false true false = refl
side_case false false true = refl
side_case false false false = refl

as_home : (a : Bool) → not (differ a true) ≡ a
as_home true = refl
as_home false = refl

as_other : (a : Bool) → not (differ a false) ≡ not a
as_other true = refl
as_other false = refl

home_case : (a : Bool) → not (differ a a) ≡ true
home_case true = refl
home_case false = refl

apart_case : (a b z : Bool) → differ a b ≡ true → (not (differ a z) ≡ false) ⊎ (not (differ b z) ≡ false)
apart_case true true z h = absurd (false≢true h)
apart_case true false true h = inr refl
apart_case true false false h = inl refl
apart_case false true true h = inl refl
apart_case false true false h = inr refl
apart_case false false z h = absurd (false≢true h)

crosses_all : (p q : ℕ → Bool) (n : ℕ) (ps : List (ℕ × ℕ)) → ((k : ℕ) → k < n → q k ≡ not (differ (p k) (p 0))) → AllByRecursion (λ f. (f.0 < f.1) × (f.1 < n)) ps
    → AllByRecursion (λ f. crosses p f ≡ true) ps → AllByRecursion (λ f. crosses q f ≡ true) ps
crosses_all p q n [] e b c = tt
crosses_all p q n (f ∷ ps) e b c =
    let l = b.0.0 in
    let m = b.0.1 in (
      ap (λ (i : Bool). differ i (q f.1)) (e f.0 (omega (arith, l, m))) ∙ ap (λ (i : Bool). differ (not (differ (p f.0) (p 0))) i) (e f.1 m) ∙ side_case (p f.0) (p f.1) (p 0) ∙ c.0,
      crosses_all p q n ps e b.1 c.1,
    )

-- the handle of a side: the cities that are where city 0 is
pub record IsHandle (n : ℕ) (p : ℕ → Bool) (h : List ℕ) : Type 0 where
  pub set : IsSet n h
  pub members : (k : ℕ) → k < n → has h k ≡ not (differ (p k) (p 0))

handle_crossing : (n : ℕ) (es : List Entry) (p : ℕ → Bool) (h : List ℕ) → AllByRecursion (IsEntry n) es → IsHandle n p h → crossing es (has h) ≡ crossing es p
handle_crossing n es p h all is = ⊎_elim
    (λ (t : p 0 ≡ true). crossing_within n es (has h) p all (λ k l. is.members k l ∙ ap (λ (b : Bool). not (differ (p k) b)) t ∙ as_home (p k)))
    (λ (f : p 0 ≡ false). crossing_within n es (has h) (λ k. not (p k)) all (λ k l. is.members k l ∙ ap (λ (b : Bool). not (differ (p k) b)) f ∙ as_other (p k)) ∙ crossing_not es p)
    (cases_Bool (p 0))

some_pair : (n : ℕ) (p : ℕ → Bool) (h : List ℕ) (ps : List (ℕ × ℕ)) → 0 < n → IsHandle n p h → AllByRecursion (λ f. (f.0 < f.1) × (f.1 < n)) ps → AllByRecursion (λ f. crosses p f ≡ true) ps → 0 < length ps → IsProper n h
some_pair n p h [] some is b c l = absurd (omega (arith, l))
some_pair n p h (f ∷ ps) some is b c l =
    let lo = b.0.0 in
    let hi = b.0.1 in
    let home : has h 0 ≡ true = is.members 0 some ∙ home_case (p 0) in
    let first : f.0 < n = omega (arith, lo, hi) in
    ⊎_elim
    (λ (z : not (differ (p f.0) (p 0)) ≡ false). proper_from n 0 f.0 h is.set home first (is.members f.0 first ∙ z))
    (λ (z : not (differ (p f.1) (p 0)) ≡ false). proper_from n 0 f.1 h is.set home hi (is.members f.1 hi ∙ z))
    (apart_case (p f.0) (p f.1) (p 0) c.0)

-- ---- the choice of entries

module _ (x : Values) (t : Option (ℕ × ℕ)) (p : ℕ → Bool) (ps : List (ℕ × ℕ)) (pairs : ArePairsTo x.n p (is_chosen x.entries t) (x.n, 0) ps) where
  ahead : (u v : ℕ) → u < v → v < x.n → crosses p (u, v) ≡ true → has_step ps u v ≡ is_chosen x.entries t u v
  ahead u v l m c = both_or (has_step ps u v) (is_chosen x.entries t u v)
      (λ s. step_chosen x.entries t ps u v pairs.wanted s)
      (λ w. pairs.all u v l m (inl (omega (arith, l, m))) c w)

  step_is : (u v : ℕ) → (u ≡ v → ⊥) → u < x.n → v < x.n → crosses p (u, v) ≡ true → has_step ps u v ≡ is_chosen x.entries t u v
  step_is u v ne a b c = ⊎_elim
      (λ (l : u < v). ahead u v l b c)
      (λ (l : v ≤ u). has_step_swap ps u v ∙ ahead v u (omega (arith, l, ne)) a (differ_turn (p v) (p u) ∙ c) ∙ chosen_swap x.entries t v u)
      (cases_lt u v)

  choice_of : (es : List Entry) → AllByRecursion (IsEntry x.n) es → AllByRecursion (IsTold x.entries) es → IsChoice p (has_step ps) (λ e. is_turned t e.u e.v) es
  choice_of [] a k = tt
  choice_of (e ∷ es) a k = (
    λ c. step_is e.u e.v a.0.apart a.0.u_below a.0.v_below c ∙ ap (λ (w : ℕ). differ (is_over w) (is_turned t e.u e.v)) k.0.value,
    choice_of es a.1 k.1,
  )

-- what the pairs of a side weigh, that they are odd in number, and not too many
record IsWeighed (es : List Entry) (p : ℕ → Bool) (ps : List (ℕ × ℕ)) (weight : ℕ) : Type 0 where
  weighs : cost es p (has_step ps) ≡ weight
  parity : chosen_odd es p (has_step ps) ≡ true
  few : count es p (has_step ps) ≤ overs es + 1
  all : unlisted es ps ≡ 0

never : (es : List Entry) → AllByRecursion (λ e. is_turned None e.u e.v ≡ false) es
never [] = tt
never (e ∷ es) = (refl, never es)

weighed : (x : Values) (p : ℕ → Bool) (ps : List (ℕ × ℕ)) (weight : ℕ) → AreEntries x.n x.entries → AreSmall x.entries → (t : Option (ℕ × ℕ)) → ArePairsTo x.n p (is_chosen x.entries t) (x.n, 0) ps
    → HasWeight x.entries p t weight → IsWeighed x.entries p ps weight
weighed x p ps weight a s None pairs w =
    let r = none_turned x.entries p (has_step ps) (λ e. is_turned None e.u e.v) s (choice_of x None p ps pairs x.entries a.each (all_told x.entries a.distinct)) (never x.entries) in
    let n = r.few in
    record {
      weighs = r.weighs ∙ w.1;
      parity = r.parity ∙ w.0;
      few = omega (arith, n);
      all = none_unlisted x.entries None ps (λ f e. absurd (none_some f e)) pairs.wanted;
    }
  where
    some_of : Option (ℕ × ℕ) → Bool
    some_of None = false
    some_of (Some f) = true

    none_some : (f : ℕ × ℕ) → None ≡ Some f → ⊥
    none_some f e = false≢true (ap some_of e)
weighed x p ps weight a s (Some f) pairs w =
    let r = one_turned x.entries p (has_step ps) f s a.distinct (choice_of x (Some f) p ps pairs x.entries a.each (all_told x.entries a.distinct)) w.1.1.0 w.1.0 in
    record {
      weighs = r.weighs ∙ w.1.1.1;
      parity = r.parity ∙ ap not w.0;
      few = r.few;
      all = none_unlisted x.entries (Some f) ps (λ g e. subst (λ (o : Option (ℕ × ℕ)). is_listed x.entries (first_of o).0 (first_of o).1 ≡ true) e w.1.0) pairs.wanted;
    }
  where
    first_of : Option (ℕ × ℕ) → ℕ × ℕ
    first_of None = f
    first_of (Some g) = g

-- the cut of a side
pub record IsCutOfSide (x : Values) (h : List ℕ) (ps : List (ℕ × ℕ)) (weight : ℕ) : Type 0 where
  pub is_odd : IsOdd x.n h ps
  pub home : has h 0 ≡ true
  pub weighs : odd_weight x h ps ≡ pos weight

pub cut_of_side : (x : Values) (p : ℕ → Bool) (h : List ℕ) (ps : List (ℕ × ℕ)) (weight : ℕ) (t : Option (ℕ × ℕ)) → 3 ≤ x.n → x.n ≤ 2000 → AreEntries x.n x.entries → IsRelaxed x
    → IsHandle x.n p h → ArePairsTo x.n p (is_chosen x.entries t) (x.n, 0) ps → HasWeight x.entries p t weight → IsCutOfSide x h ps weight
cut_of_side x p h ps weight t many few a relaxed handle pairs w =
    let es = x.entries in
    let s : AreSmall es = relaxed.small in
    let k = weighed x p ps weight a s t pairs w in
    let n = pairs_count es p ps a.distinct (rising_are_distinct x.n ps pairs.below pairs.rising) pairs.crossed in
    let odd = count_by_odd es p (has_step ps) k.parity in
    let all = k.all in
    let most = k.few in
    let some = overs_at_most x.n es few a.each (λ j l. let d = relaxed.degrees j l in let e = weight_by_entries x (λ i. i == j) a in omega (arith, ints, d, e)) in
    let same = handle_crossing x.n es p h a.each handle in
    let c = weight_is_cost x h ps p a s pairs.below pairs.crossed same pairs.rising in
    let v = k.weighs in
    record {
      is_odd = record {
        proper = some_pair x.n p h ps (omega (arith, many)) handle pairs.below pairs.crossed (omega (arith, n, all, odd));
        odd = omega (arith, n, all, odd);
        few = omega (arith, n, all, most, some);
        below = pairs.below;
        rising = pairs.rising;
        crossed = crosses_all p (has h) x.n ps handle.members pairs.below pairs.crossed;
      };
      home = handle.members 0 (omega (arith, many)) ∙ home_case (p 0);
      weighs = omega (arith, ints, c, all, v);
    }
