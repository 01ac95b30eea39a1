-- What an odd cut weighs, entry by entry: each crossing entry counts as it is chosen.
use Rattle.std.proofs.Common.{◌≡◌, ℕ, ◌+◌, ◌-◌, ◌*◌, ◌%◌, ◌<◌, ◌≤◌, Bool, true, false, not, cond, ◌&&◌, ◌||◌, List, [], ◌∷◌, length, refl, sym, ap, ◌∙◌, arith, ⊎_elim, inl, inr}
use Rattle.std.specs.List.{AllByRecursion}
use Rattle.std.proofs.lemmas.Bool.{cases_Bool, false≢true, cond-true, cond-false, ltb-true, ltb-false, or_parts, false_from_ne_true}
use Rattle.std.proofs.lemmas.Bool.Decides.{nat_tests}
use Rattle.std.proofs.lemmas.List.Sums.{sum_by-cons}
use Rattle.tspdef.specs.Tours.{joins, crosses, has_step}
use Rattle.tspdef.specs.Fixed.{IsPairBefore, PairsRise, AreRisingPairs}
use Rattle.tspdef.proofs.Steps.{joins_is, has_step_at, AreDistinctSteps}
use Rattle.cyc.specs.declared.frac.Entry.{Entry}
use Rattle.cyc.specs.Frac.{value_of, is_listed, ArePairsDistinct}
use Rattle.cyc.proofs.EntryLemmas.{listed_same, value_unlisted}
use Rattle.maxflow.specs.Crossings.{crossing_at, crossing}
use Rattle.sepodd.specs.Folding.{one, folded, folded_entry, folded_entries, is_over, turning, differ, is_odd, folded_crossing, value_of_pairs}

-- no value is above one
abbrev pub AreSmall : List Entry → Type 0
AreSmall es = AllByRecursion (λ e. e.x ≤ one) es

-- what an entry counts for
abbrev pub cost_at : (ℕ → Bool) → Entry → Bool → ℕ
cost_at p e b = cond (crosses p (e.u, e.v)) (cond b (one - e.x) e.x) 0

abbrev pub cost : List Entry → (ℕ → Bool) → (ℕ → ℕ → Bool) → ℕ
cost [] p chosen = 0
cost (e ∷ es) p chosen = cost_at p e (chosen e.u e.v) + cost es p chosen

-- how many crossing entries are chosen
abbrev pub count : List Entry → (ℕ → Bool) → (ℕ → ℕ → Bool) → ℕ
count [] p chosen = 0
count (e ∷ es) p chosen = cond (crosses p (e.u, e.v) && chosen e.u e.v) 1 0 + count es p chosen

-- they are odd in number
abbrev pub chosen_odd : List Entry → (ℕ → Bool) → (ℕ → ℕ → Bool) → Bool
chosen_odd [] p chosen = false
chosen_odd (e ∷ es) p chosen = differ (crosses p (e.u, e.v) && chosen e.u e.v) (chosen_odd es p chosen)

-- how many pairs have no entry
abbrev pub unlisted : List Entry → List (ℕ × ℕ) → ℕ
unlisted es [] = 0
unlisted es (f ∷ ps) = cond (is_listed es f.0 f.1) 0 1 + unlisted es ps

parity_step : (a b : Bool) (c : ℕ) → c % 2 ≡ cond b 1 0 → (cond a 1 0 + c) % 2 ≡ cond (differ a b) 1 0
parity_step true true c h = omega (arith, h)
parity_step true false c h = omega (arith, h)
parity_step false true c h = omega (arith, h)
parity_step false false c h = omega (arith, h)

pub count_parity : (es : List Entry) (p : ℕ → Bool) (chosen : ℕ → ℕ → Bool) → count es p chosen % 2 ≡ cond (chosen_odd es p chosen) 1 0
count_parity [] p chosen = refl
count_parity (e ∷ es) p chosen = parity_step (crosses p (e.u, e.v) && chosen e.u e.v) (chosen_odd es p chosen) (count es p chosen) (count_parity es p chosen)

odd_case : (b : Bool) → 1 ≡ cond {A = ℕ} b 1 0 → b ≡ true
odd_case true h = refl
odd_case false h = absurd (omega (arith, h))

pub odd_by_count : (es : List Entry) (p : ℕ → Bool) (chosen : ℕ → ℕ → Bool) → count es p chosen % 2 ≡ 1 → chosen_odd es p chosen ≡ true
odd_by_count es p chosen h = odd_case (chosen_odd es p chosen) (sym h ∙ count_parity es p chosen)

pub count_by_odd : (es : List Entry) (p : ℕ → Bool) (chosen : ℕ → ℕ → Bool) → chosen_odd es p chosen ≡ true → count es p chosen % 2 ≡ 1
count_by_odd es p chosen h = count_parity es p chosen ∙ ap (λ b. cond {A = ℕ} b 1 0) h

-- ---- pairs in either order

joins_back : (u v a b : ℕ) → joins u v (a, b) ≡ true → joins a b (u, v) ≡ true
joins_back u v a b h = grind (arith, nat_tests)

pub joins_turn : (u v a b : ℕ) → joins u v (a, b) ≡ joins a b (u, v)
joins_turn u v a b = ⊎_elim
    (λ (t : joins u v (a, b) ≡ true). t ∙ sym (joins_back u v a b t))
    (λ (f : joins u v (a, b) ≡ false). f ∙ sym (false_from_ne_true (joins a b (u, v)) (λ t. false≢true (sym f ∙ joins_back a b u v t))))
    (cases_Bool (joins u v (a, b)))

pub differ_turn : (a b : Bool) → differ a b ≡ differ b a
differ_turn true true = refl
differ_turn true false = refl
differ_turn false true = refl
differ_turn false false = refl

-- a pair crosses what the entry of it crosses
pub crosses_joined : (p : ℕ → Bool) (u v a b : ℕ) → joins u v (a, b) ≡ true → crosses p (a, b) ≡ crosses p (u, v)
crosses_joined p u v a b h = ⊎_elim
    (λ e. ap (λ i. differ (p i) (p b)) e.0 ∙ ap (λ i. differ (p u) (p i)) e.1)
    (λ e. ap (λ i. differ (p i) (p b)) e.0 ∙ ap (λ i. differ (p v) (p i)) e.1 ∙ differ_turn (p v) (p u))
    (joins_is a b u v h)

-- ---- pairs by entries

or_false : (a b : Bool) → a ≡ false → (a || b) ≡ b
or_false true b h = absurd (false≢true (sym h))
or_false false b h = refl

or_true : (a b : Bool) → a ≡ true → (a || b) ≡ true
or_true true b h = refl
or_true false b h = absurd (false≢true h)

module _ (p : ℕ → Bool) (f : ℕ × ℕ) (ps : List (ℕ × ℕ)) (fresh : has_step ps f.0 f.1 ≡ false) (crossed : crosses p f ≡ true) where
  -- the choice at an entry of another pair
  as_before : (e : Entry) → joins f.0 f.1 (e.u, e.v) ≡ false → has_step (f ∷ ps) e.u e.v ≡ has_step ps e.u e.v
  as_before e h = or_false (joins e.u e.v f) (has_step ps e.u e.v) (joins_turn e.u e.v f.0 f.1 ∙ h)

  pub cost_unlisted : (es : List Entry) → is_listed es f.0 f.1 ≡ false → cost es p (has_step (f ∷ ps)) ≡ cost es p (has_step ps)
  cost_unlisted [] h = refl
  cost_unlisted (e ∷ es) h =
      let parts = or_parts (joins f.0 f.1 (e.u, e.v)) (is_listed es f.0 f.1) h in
      let ih = cost_unlisted es parts.1 in
      let at = ap (λ b. cost_at p e b) (as_before e parts.0) in
      omega (arith, ih, at)

  pub count_unlisted : (es : List Entry) → is_listed es f.0 f.1 ≡ false → count es p (has_step (f ∷ ps)) ≡ count es p (has_step ps)
  count_unlisted [] h = refl
  count_unlisted (e ∷ es) h =
      let parts = or_parts (joins f.0 f.1 (e.u, e.v)) (is_listed es f.0 f.1) h in
      let ih = count_unlisted es parts.1 in
      let at = ap (λ b. cond {A = ℕ} (crosses p (e.u, e.v) && b) 1 0) (as_before e parts.0) in
      omega (arith, ih, at)

  -- the entry of the pair
  record IsAt (e : Entry) : Type 0 where
    cross : crosses p (e.u, e.v) ≡ true
    new : has_step (f ∷ ps) e.u e.v ≡ true
    old : has_step ps e.u e.v ≡ false

  at_entry : (e : Entry) → joins f.0 f.1 (e.u, e.v) ≡ true → IsAt e
  at_entry e j =
      let back : joins e.u e.v (f.0, f.1) ≡ true = joins_turn e.u e.v f.0 f.1 ∙ j in
      record {
        cross = crosses_joined p f.0 f.1 e.u e.v j ∙ crossed;
        new = or_true (joins e.u e.v f) (has_step ps e.u e.v) back;
        old = has_step_at ps f.0 f.1 e.u e.v back ∙ fresh;
      }

  cost_new : (e : Entry) → IsAt e → cost_at p e (has_step (f ∷ ps) e.u e.v) ≡ one - e.x
  cost_new e i = ap (λ b. cost_at p e b) i.new ∙ ap (λ c. cond {A = ℕ} c (one - e.x) 0) i.cross

  cost_old : (e : Entry) → IsAt e → cost_at p e (has_step ps e.u e.v) ≡ e.x
  cost_old e i = ap (λ b. cost_at p e b) i.old ∙ ap (λ c. cond {A = ℕ} c e.x 0) i.cross

  count_new : (e : Entry) → IsAt e → cond {A = ℕ} (crosses p (e.u, e.v) && has_step (f ∷ ps) e.u e.v) 1 0 ≡ 1
  count_new e i = ap (λ c. cond {A = ℕ} (c && has_step (f ∷ ps) e.u e.v) 1 0) i.cross ∙ ap (λ b. cond {A = ℕ} b 1 0) i.new

  count_old : (e : Entry) → IsAt e → cond {A = ℕ} (crosses p (e.u, e.v) && has_step ps e.u e.v) 1 0 ≡ 0
  count_old e i = ap (λ c. cond {A = ℕ} (c && has_step ps e.u e.v) 1 0) i.cross ∙ ap (λ b. cond {A = ℕ} b 1 0) i.old

  rest_unlisted : (e : Entry) (es : List Entry) → joins f.0 f.1 (e.u, e.v) ≡ true → is_listed es e.u e.v ≡ false → is_listed es f.0 f.1 ≡ false
  rest_unlisted e es j d = listed_same es f.0 f.1 e.u e.v j ∙ d

  pub cost_listed : (es : List Entry) → ArePairsDistinct es → AreSmall es → is_listed es f.0 f.1 ≡ true
      → cost es p (has_step (f ∷ ps)) + 2 * value_of es f.0 f.1 ≡ cost es p (has_step ps) + one
  cost_listed [] d s h = absurd (false≢true h)
  cost_listed (e ∷ es) d s h = ⊎_elim
      (λ (j : joins f.0 f.1 (e.u, e.v) ≡ true).
      let i = at_entry e j in
      let a = cost_new e i in
      let b = cost_old e i in
      let r = cost_unlisted es (rest_unlisted e es j d.0) in
      let v : value_of (e ∷ es) f.0 f.1 ≡ e.x = cond-true (joins f.0 f.1 (e.u, e.v)) e.x (value_of es f.0 f.1) j in
      let m = s.0 in
      omega (arith, a, b, r, v, m))
      (λ (j : joins f.0 f.1 (e.u, e.v) ≡ false).
      let ih = cost_listed es d.1 s.1 (sym (or_false (joins f.0 f.1 (e.u, e.v)) (is_listed es f.0 f.1) j) ∙ h) in
      let at = ap (λ b. cost_at p e b) (as_before e j) in
      let v : value_of (e ∷ es) f.0 f.1 ≡ value_of es f.0 f.1 = cond-false (joins f.0 f.1 (e.u, e.v)) e.x (value_of es f.0 f.1) j in
      omega (arith, ih, at, v))
      (cases_Bool (joins f.0 f.1 (e.u, e.v)))

  pub count_listed : (es : List Entry) → ArePairsDistinct es → is_listed es f.0 f.1 ≡ true → count es p (has_step (f ∷ ps)) ≡ count es p (has_step ps) + 1
  count_listed [] d h = absurd (false≢true h)
  count_listed (e ∷ es) d h = ⊎_elim
      (λ (j : joins f.0 f.1 (e.u, e.v) ≡ true).
      let i = at_entry e j in
      let a = count_new e i in
      let b = count_old e i in
      let r = count_unlisted es (rest_unlisted e es j d.0) in
      omega (arith, a, b, r))
      (λ (j : joins f.0 f.1 (e.u, e.v) ≡ false).
      let ih = count_listed es d.1 (sym (or_false (joins f.0 f.1 (e.u, e.v)) (is_listed es f.0 f.1) j) ∙ h) in
      let at = ap (λ b. cond {A = ℕ} (crosses p (e.u, e.v) && b) 1 0) (as_before e j) in
      omega (arith, ih, at))
      (cases_Bool (joins f.0 f.1 (e.u, e.v)))

none_case : (pu pv : Bool) (x : ℕ) → cond (cond pu (not pv) pv) x 0 ≡ cond pu (cond pv 0 x) (cond pv x 0)
none_case true true x = refl
none_case true false x = refl
none_case false true x = refl
none_case false false x = refl

cost_of_none : (es : List Entry) (p : ℕ → Bool) → cost es p (has_step []) ≡ crossing es p
cost_of_none [] p = refl
cost_of_none (e ∷ es) p =
    let ih = cost_of_none es p in
    let at : cost_at p e false ≡ crossing_at p e = none_case (p e.u) (p e.v) e.x in
    let s : crossing (e ∷ es) p ≡ crossing_at p e + crossing es p = sum_by-cons (crossing_at p) e es in
    omega (arith, ih, at, s)

none_counted : (c : Bool) → cond {A = ℕ} (c && false) 1 0 ≡ 0
none_counted true = refl
none_counted false = refl

count_of_none : (es : List Entry) (p : ℕ → Bool) → count es p (has_step []) ≡ 0
count_of_none [] p = refl
count_of_none (e ∷ es) p = let ih = count_of_none es p in let at = none_counted (crosses p (e.u, e.v)) in omega (arith, ih, at)

-- what different pairs that cross a set weigh
pub pairs_cost : (es : List Entry) (p : ℕ → Bool) (ps : List (ℕ × ℕ)) → ArePairsDistinct es → AreSmall es → AreDistinctSteps ps → AllByRecursion (λ q. crosses p q ≡ true) ps
    → cost es p (has_step ps) + one * unlisted es ps + 2 * value_of_pairs es ps ≡ crossing es p + one * length ps
pairs_cost es p [] d s k c = let z = cost_of_none es p in omega (arith, z)
pairs_cost es p (f ∷ ps) d s k c =
    let ih = pairs_cost es p ps d s k.1 c.1 in
    ⊎_elim
    (λ (l : is_listed es f.0 f.1 ≡ true).
    let a = cost_listed p f ps k.0 c.0 es d s l in
    let b : unlisted es (f ∷ ps) ≡ 0 + unlisted es ps = ap (λ t. cond {A = ℕ} t 0 1 + unlisted es ps) l in
    omega (arith, ih, a, b))
    (λ (l : is_listed es f.0 f.1 ≡ false).
    let a = cost_unlisted p f ps k.0 c.0 es l in
    let b : unlisted es (f ∷ ps) ≡ 1 + unlisted es ps = ap (λ t. cond {A = ℕ} t 0 1 + unlisted es ps) l in
    let v = value_unlisted es f.0 f.1 l in
    omega (arith, ih, a, b, v))
    (cases_Bool (is_listed es f.0 f.1))

pub pairs_count : (es : List Entry) (p : ℕ → Bool) (ps : List (ℕ × ℕ)) → ArePairsDistinct es → AreDistinctSteps ps → AllByRecursion (λ q. crosses p q ≡ true) ps
    → count es p (has_step ps) + unlisted es ps ≡ length ps
pairs_count es p [] d k c = let z = count_of_none es p in omega (arith, z)
pairs_count es p (f ∷ ps) d k c =
    let ih = pairs_count es p ps d k.1 c.1 in
    ⊎_elim
    (λ (l : is_listed es f.0 f.1 ≡ true).
    let a = count_listed p f ps k.0 c.0 es d l in
    let b : unlisted es (f ∷ ps) ≡ 0 + unlisted es ps = ap (λ t. cond {A = ℕ} t 0 1 + unlisted es ps) l in
    omega (arith, ih, a, b))
    (λ (l : is_listed es f.0 f.1 ≡ false).
    let a = count_unlisted p f ps k.0 c.0 es l in
    let b : unlisted es (f ∷ ps) ≡ 1 + unlisted es ps = ap (λ t. cond {A = ℕ} t 0 1 + unlisted es ps) l in
    omega (arith, ih, a, b))
    (cases_Bool (is_listed es f.0 f.1))

-- ---- rising pairs are different

before_is_apart : (f g : ℕ × ℕ) → f.0 < f.1 → g.0 < g.1 → IsPairBefore f g → joins f.0 f.1 g ≡ false
before_is_apart f g a b l = false_from_ne_true (joins f.0 f.1 g) (λ j. ⊎_elim
    (λ e. let x = e.0 in let y = e.1 in ⊎_elim (λ q. absurd (omega (arith, x, y, q))) (λ q. let z = q.1 in absurd (omega (arith, x, y, z))) l)
    (λ e. let x = e.0 in let y = e.1 in absurd (⊎_elim (λ q. absurd (omega (arith, x, y, q, a, b))) (λ q. let z = q.0 in absurd (omega (arith, x, y, z, a, b))) l))
    (joins_is g.0 g.1 f.0 f.1 j))

before_trans : (f g h : ℕ × ℕ) → IsPairBefore f g → IsPairBefore g h → IsPairBefore f h
before_trans f g h a b = ⊎_elim
    (λ (x : f.0 < g.0). ⊎_elim (λ (y : g.0 < h.0). inl (omega arith)) (λ y. inl (let z = y.0 in omega arith)) b)
    (λ x. ⊎_elim (λ (y : g.0 < h.0). inl (let z = x.0 in omega arith)) (λ y. inr (x.0 ∙ y.0, (let z = x.1 in let w = y.1 in omega arith))) b)
    a

none_behind : (n : ℕ) (f g : ℕ × ℕ) (ps : List (ℕ × ℕ)) → f.0 < f.1 → IsPairBefore f g → AllByRecursion (λ q. (q.0 < q.1) × (q.1 < n)) ps → PairsRise g ps → has_step ps f.0 f.1 ≡ false
none_behind n f g [] a b all r = refl
none_behind n f g (h ∷ ps) a b all r =
    let t = before_trans f g h b r.0 in
    or_false (joins f.0 f.1 h) (has_step ps f.0 f.1) (before_is_apart f h a all.0.0 t) ∙ none_behind n f h ps a t all.1 r.1

fresh_behind : (n : ℕ) (f : ℕ × ℕ) (ps : List (ℕ × ℕ)) → f.0 < f.1 → AllByRecursion (λ q. (q.0 < q.1) × (q.1 < n)) ps → PairsRise f ps → has_step ps f.0 f.1 ≡ false
fresh_behind n f [] a all r = refl
fresh_behind n f (h ∷ ps) a all r = or_false (joins f.0 f.1 h) (has_step ps f.0 f.1) (before_is_apart f h a all.0.0 r.0) ∙ none_behind n f h ps a r.0 all.1 r.1

rise_rest : (f : ℕ × ℕ) (ps : List (ℕ × ℕ)) → PairsRise f ps → AreRisingPairs ps
rise_rest f [] r = tt
rise_rest f (g ∷ ps) r = r.1

pub rising_are_distinct : (n : ℕ) (ps : List (ℕ × ℕ)) → AllByRecursion (λ q. (q.0 < q.1) × (q.1 < n)) ps → AreRisingPairs ps → AreDistinctSteps ps
rising_are_distinct n [] all r = tt
rising_are_distinct n (f ∷ ps) all r = (fresh_behind n f ps all.0.0 all.1 r, rising_are_distinct n ps all.1 (rise_rest f ps r))

-- ---- chosen as is cheaper, or not

abbrev pub cost_case : Bool → Bool → Bool → ℕ → ℕ
cost_case pu pv b x = cond (cond pu (not pv) pv) (cond b (one - x) x) 0

abbrev pub folded_case : Bool → Bool → ℕ → ℕ
folded_case pu pv x = cond pu (cond pv 0 (folded x)) (cond pv (folded x) 0)

less_case : (pu pv b : Bool) (x : ℕ) → folded_case pu pv x ≤ cost_case pu pv b x
less_case true true true x = omega arith
less_case true true false x = omega arith
less_case true false true x = omega arith
less_case true false false x = omega arith
less_case false true true x = omega arith
less_case false true false x = omega arith
less_case false false true x = omega arith
less_case false false false x = omega arith

pub folded_more : (es : List Entry) (e : Entry) (p : ℕ → Bool) → folded_crossing (e ∷ es) p ≡ crossing_at p (folded_entry e) + folded_crossing es p
folded_more es e p = sum_by-cons (crossing_at p) (folded_entry e) (folded_entries es)

-- no choice is cheaper
pub folded_less : (es : List Entry) (p : ℕ → Bool) (chosen : ℕ → ℕ → Bool) → folded_crossing es p ≤ cost es p chosen
folded_less [] p chosen = omega arith
folded_less (e ∷ es) p chosen =
    let ih = folded_less es p chosen in
    let at : crossing_at p (folded_entry e) ≤ cost_at p e (chosen e.u e.v) = less_case (p e.u) (p e.v) (chosen e.u e.v) e.x in
    let s = folded_more es e p in
    omega (arith, ih, at, s)

over_more : (x : ℕ) → is_over x ≡ true → 524288 < x
over_more x h = ltb-true 524288 x h

over_less : (x : ℕ) → is_over x ≡ false → x ≤ 524288
over_less x h = ltb-false 524288 x h

-- a crossing entry chosen as is cheaper
pub as_cheaper : (p : ℕ → Bool) (e : Entry) (b : Bool) → e.x ≤ one → (crosses p (e.u, e.v) ≡ true → b ≡ is_over e.x) → cost_at p e b ≡ crossing_at p (folded_entry e)
as_cheaper p e b s h = ⊎_elim
    (λ (c : crosses p (e.u, e.v) ≡ true). ⊎_elim
    (λ (t : is_over e.x ≡ true).
    let m = over_more e.x t in
    let a : cost_at p e b ≡ one - e.x = ap (λ i. cost_at p e i) (h c ∙ t) ∙ ap (λ i. cond {A = ℕ} i (one - e.x) 0) c in
    let f = crossed_value p e c in
    omega (arith, m, a, f, s))
    (λ (t : is_over e.x ≡ false).
    let m = over_less e.x t in
    let a : cost_at p e b ≡ e.x = ap (λ i. cost_at p e i) (h c ∙ t) ∙ ap (λ i. cond {A = ℕ} i e.x 0) c in
    let f = crossed_value p e c in
    omega (arith, m, a, f, s))
    (cases_Bool (is_over e.x)))
    (λ (c : crosses p (e.u, e.v) ≡ false). ap (λ i. cond {A = ℕ} i (cond b (one - e.x) e.x) 0) c ∙ sym (uncrossed_value p e c))
    (cases_Bool (crosses p (e.u, e.v)))
  where
    value_case : (pu pv : Bool) (x : ℕ) → cond pu (not pv) pv ≡ true → cond pu (cond pv 0 x) (cond pv x 0) ≡ x
    value_case true true x h = absurd (false≢true h)
    value_case true false x h = refl
    value_case false true x h = refl
    value_case false false x h = absurd (false≢true h)

    none_value : (pu pv : Bool) (x : ℕ) → cond pu (not pv) pv ≡ false → cond pu (cond pv 0 x) (cond pv x 0) ≡ 0
    none_value true true x h = refl
    none_value true false x h = absurd (false≢true (sym h))
    none_value false true x h = absurd (false≢true (sym h))
    none_value false false x h = refl

    crossed_value : (p : ℕ → Bool) (e : Entry) → crosses p (e.u, e.v) ≡ true → crossing_at p (folded_entry e) ≡ folded e.x
    crossed_value p e c = value_case (p e.u) (p e.v) (folded e.x) c

    uncrossed_value : (p : ℕ → Bool) (e : Entry) → crosses p (e.u, e.v) ≡ false → crossing_at p (folded_entry e) ≡ 0
    uncrossed_value p e c = none_value (p e.u) (p e.v) (folded e.x) c

turned_cost : (b : Bool) (x : ℕ) → x ≤ one → b ≡ not (is_over x) → cond b (one - x) x ≡ folded x + turning x
turned_cost b x s h = ⊎_elim
    (λ (t : is_over x ≡ true).
    let m = over_more x t in
    let a : cond b (one - x) x ≡ x = ap (λ i. cond {A = ℕ} i (one - x) x) (h ∙ ap not t) in
    let v : turning x ≡ x - (one - x) = cond-true (is_over x) (x - (one - x)) (one - x - x) t in
    omega (arith, m, a, v, s))
    (λ (t : is_over x ≡ false).
    let m = over_less x t in
    let a : cond b (one - x) x ≡ one - x = ap (λ i. cond {A = ℕ} i (one - x) x) (h ∙ ap not t) in
    let v : turning x ≡ one - x - x = cond-false (is_over x) (x - (one - x)) (one - x - x) t in
    omega (arith, m, a, v, s))
    (cases_Bool (is_over x))

turned_value : (pu pv b : Bool) (x : ℕ) → cond pu (not pv) pv ≡ true → x ≤ one → b ≡ not (is_over x) → cost_case pu pv b x ≡ folded_case pu pv x + turning x
turned_value true true b x c s h = absurd (false≢true c)
turned_value false false b x c s h = absurd (false≢true c)
turned_value true false b x c s h = turned_cost b x s h
turned_value false true b x c s h = turned_cost b x s h

-- a crossing entry chosen otherwise
pub as_turned : (p : ℕ → Bool) (e : Entry) (b : Bool) → e.x ≤ one → crosses p (e.u, e.v) ≡ true → b ≡ not (is_over e.x) → cost_at p e b ≡ crossing_at p (folded_entry e) + turning e.x
as_turned p e b s c h = turned_value (p e.u) (p e.v) b e.x c s h

parity_kept : (c b o x y : Bool) → (c ≡ true → b ≡ o) → differ (differ (c && b) x) (differ (o && c) y) ≡ differ x y
parity_kept true b o x y h = rw (h refl) (cancel o x y)
  where
    cancel : (o x y : Bool) → differ (differ o x) (differ (o && true) y) ≡ differ x y
    cancel true true true = refl
    cancel true true false = refl
    cancel true false true = refl
    cancel true false false = refl
    cancel false true true = refl
    cancel false true false = refl
    cancel false false true = refl
    cancel false false false = refl
parity_kept false b true x y h = refl
parity_kept false b false x y h = refl

-- Where a choice has another parity than the cheaper one, some crossing entry is turned over.
pub turned_bound : (es : List Entry) (p : ℕ → Bool) (chosen : ℕ → ℕ → Bool) (w extra : ℕ) → AreSmall es
    → AllByRecursion (λ e. crosses p (e.u, e.v) ≡ true → w ≤ extra + turning e.x) es → differ (chosen_odd es p chosen) (is_odd es p) ≡ true
    → w + folded_crossing es p ≤ extra + cost es p chosen
turned_bound [] p chosen w extra s all d = absurd (false≢true d)
turned_bound (e ∷ es) p chosen w extra s all d =
    let b = chosen e.u e.v in
    let f = folded_more es e p in
    ⊎_elim
    (λ (same : differ b (is_over e.x) ≡ false).
    let eq : b ≡ is_over e.x = differ_false b (is_over e.x) same in
    let ih = turned_bound es p chosen w extra s.1 all.1 (sym (parity_kept (crosses p (e.u, e.v)) b (is_over e.x) (chosen_odd es p chosen) (is_odd es p) (λ h. eq)) ∙ d) in
    let at = as_cheaper p e b s.0 (λ h. eq) in
    omega (arith, ih, at, f))
    (λ (other : differ b (is_over e.x) ≡ true). ⊎_elim
    (λ (c : crosses p (e.u, e.v) ≡ true).
    let at = as_turned p e b s.0 c (differ_not b (is_over e.x) other) in
    let l = all.0 c in
    let rest = folded_less es p chosen in
    omega (arith, at, l, rest, f))
    (λ (c : crosses p (e.u, e.v) ≡ false).
    let ih = turned_bound es p chosen w extra s.1 all.1 (sym (parity_kept (crosses p (e.u, e.v)) b (is_over e.x) (chosen_odd es p chosen) (is_odd es p) (λ h. absurd (false≢true (sym c ∙ h)))) ∙ d) in
    let at = as_cheaper p e b s.0 (λ h. absurd (false≢true (sym c ∙ h))) in
    omega (arith, ih, at, f))
    (cases_Bool (crosses p (e.u, e.v))))
    (⊎_elim (λ (t : differ b (is_over e.x) ≡ true). inr t) (λ (t : differ b (is_over e.x) ≡ false). inl t) (cases_Bool (differ b (is_over e.x))))
  where
    differ_false : (a b : Bool) → differ a b ≡ false → a ≡ b
    differ_false true true h = refl
    differ_false true false h = absurd (false≢true (sym h))
    differ_false false true h = absurd (false≢true (sym h))
    differ_false false false h = refl

    differ_not : (a b : Bool) → differ a b ≡ true → a ≡ not b
    differ_not true true h = absurd (false≢true h)
    differ_not true false h = refl
    differ_not false true h = refl
    differ_not false false h = absurd (false≢true h)
