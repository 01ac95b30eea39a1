-- Teeth of a handle, and the comb that they make with it.
use Rattle.std.proofs.Common.{◌≡◌, ℕ, ◌+◌, ◌<◌, ◌≤◌, Bool, true, false, not, cond, min, max, eqb, ◌||◌, List, [], ◌∷◌, ◌++◌, length, drop, Option, Some, None, refl, sym, ap, subst, ◌∙◌, arith, ⊎_elim}
use Rattle.std.specs.List.{AllByRecursion}
use Rattle.std.proofs.lemmas.Bool.{cases_Bool, cases_eq, cases_lt, eq-eqb, or_cases, or_parts, and_parts, cond-true, cond-false}
use Rattle.std.specs.Prelude.{MatchOption}
use Rattle.std.proofs.lemmas.List.{append-nil, drop_all}
use Rattle.tspdef.specs.Sets.{has, RisesFrom, IsSet, IsProper, meet, leaves, AreDisjoint}
use Rattle.tspdef.specs.Tours.{crosses}
use Rattle.tspdef.specs.Cuts.{Cut, comb, IsTooth, IsComb}
use Rattle.cyc.specs.declared.frac.Entry.{Entry}
use Rattle.cyc.specs.Frac.{Values, IsEntry}
use Rattle.cyc.specs.CitySet.{Members}
use Rattle.cutform.specs.Combs.{AreOddMany}
use Rattle.sepblos.specs.Blossoms.{is_near_one, is_tooth, teeth_of, IsBlossom}
use Rattle.sepblos.specs.Violated.{IsViolatedComb}
use Rattle.sepblos.proofs.WeightLemmas.{turned_case}

-- ---- sets that lack a city are short

rises_long : (n m : ℕ) (xs : List ℕ) → RisesFrom n m xs → m ≤ n → m + length xs ≤ n
rises_long n m [] r h = omega arith
rises_long n m (x ∷ xs) r h = let a = r.0.0 in let b = r.0.1 in let ih = rises_long n (x + 1) xs r.1 (omega arith) in omega arith

short : (n m c : ℕ) (xs : List ℕ) → RisesFrom n m xs → m ≤ c → c < n → has xs c ≡ false → m + length xs < n
short n m c [] r h k e = omega arith
short n m c (x ∷ xs) r h k e =
    let a = r.0.0 in
    let b = r.0.1 in
    let p = or_parts (eqb x c) (has xs c) e in
    ⊎_elim
    (λ (l : x < c). let ih = short n (x + 1) c xs r.1 (omega arith) k p.1 in omega arith)
    (λ (l : c ≤ x). ⊎_elim
    (λ (same : x ≡ c). let t = eq-eqb x c same in let f = p.0 in absurd cc)
    (λ (ne : x ≡ c → ⊥). let all = rises_long n (x + 1) xs r.1 (omega arith) in omega arith)
    (cases_eq x c))
    (cases_lt x c)

some_in : (xs : List ℕ) (c : ℕ) → has xs c ≡ true → 0 < length xs
some_in [] c h = absurd cc
some_in (x ∷ xs) c h = omega arith

meets_some : (t h : List ℕ) → meet t h ≡ true → 0 < length h
meets_some [] h e = absurd cc
meets_some (c ∷ cs) h e = ⊎_elim
    (λ a. some_in h c a)
    (λ b. meets_some cs h b)
    (or_cases (has h c) (meet cs h) e)

not_true : (b : Bool) → not b ≡ true → b ≡ false
not_true true e = absurd cc
not_true false e = refl

leaves_short : (n m : ℕ) (t h : List ℕ) → RisesFrom n m t → IsSet n h → leaves t h ≡ true → length h < n
leaves_short n m [] h r s e = absurd cc
leaves_short n m (c ∷ cs) h r s e = ⊎_elim
    (λ a. let l = short n 0 c h s (omega arith) r.0.1 (not_true (has h c) a) in omega arith)
    (λ b. leaves_short n (c + 1) cs h r.1 s b)
    (or_cases (not (has h c)) (leaves cs h) e)

-- ---- teeth

enters_case : (a b : Bool) → cond a (not b) b ≡ true → (a || (b || false)) ≡ true
enters_case true true e = absurd cc
enters_case true false e = refl
enters_case false true e = refl
enters_case false false e = absurd cc

leaves_case : (a b : Bool) → cond a (not b) b ≡ true → (not a || (not b || false)) ≡ true
leaves_case true true e = absurd cc
leaves_case true false e = refl
leaves_case false true e = refl
leaves_case false false e = absurd cc

rising_pair_is_tooth : (n : ℕ) (h : List ℕ) (u v : ℕ) → u < v → v < n → cond (has h u) (not (has h v)) (has h v) ≡ true → IsTooth n h (u ∷ v ∷ [])
rising_pair_is_tooth n h u v l k e = record {
  set = ((omega arith, omega arith), ((omega arith, k), tt));
  inside = enters_case (has h u) (has h v) e;
  outside = leaves_case (has h u) (has h v) e;
}

pub pair_is_tooth : (n : ℕ) (h : List ℕ) (u v : ℕ) → u < n → v < n → (u ≡ v → ⊥) → crosses (has h) (u, v) ≡ true → IsTooth n h (min u v ∷ max u v ∷ [])
pair_is_tooth n h u v a b ne e = ⊎_elim
    (λ (l : u < v).
    let p : min u v ≡ u = omega arith in
    let q : max u v ≡ v = omega arith in
    rw (p, q) (rising_pair_is_tooth n h u v l b e))
    (λ (l : v ≤ u).
    let p : min u v ≡ v = omega arith in
    let q : max u v ≡ u = omega arith in
    rw (p, q) (rising_pair_is_tooth n h v u (omega arith) a (turned_case (has h v) (has h u) ∙ e)))
    (cases_lt u v)

each_is_tooth : (n : ℕ) (es : List Entry) (h : List ℕ) → AllByRecursion (IsEntry n) es → AllByRecursion (IsTooth n h) (teeth_of es h)
each_is_tooth n [] h a = tt
each_is_tooth n (e ∷ es) h a =
    let ih = each_is_tooth n es h a.1 in
    ⊎_elim
    (λ t. subst (AllByRecursion (IsTooth n h)) (sym (cond-true (is_tooth h e) _ _ t))
    (pair_is_tooth n h e.u e.v a.0.u_below a.0.v_below a.0.apart (and_parts (is_near_one e.x) (crosses (has h) (e.u, e.v)) t).1, ih))
    (λ f. subst (AllByRecursion (IsTooth n h)) (sym (cond-false (is_tooth h e) _ _ f)) ih)
    (cases_Bool (is_tooth h e))

-- a handle with a tooth is proper
pub handle_is_proper : (n : ℕ) (h : List ℕ) (ts : List (List ℕ)) → IsSet n h → 3 ≤ length ts → AllByRecursion (IsTooth n h) ts → IsProper n h
handle_is_proper n h [] s many a = absurd (omega arith)
handle_is_proper n h (t ∷ ts) s many a = record {
  set = s;
  some = meets_some t h a.0.inside;
  not_all = leaves_short n 0 t h a.0.set s a.0.outside;
}

-- the list of all teeth, once no entry is left
pub teeth_done : (n : ℕ) (es : List Entry) (h : List ℕ) (ts : List (List ℕ)) (i : ℕ) → ts ++ teeth_of (drop i es) h ≡ teeth_of es h → length es ≤ i → AllByRecursion (IsEntry n) es
    → AllByRecursion (IsTooth n h) ts
teeth_done n es h ts i found past a =
    let all : ts ≡ teeth_of es h = sym (append-nil ts) ∙ (ap (λ fs. ts ++ teeth_of fs h) (sym (drop_all i es past)) ∙ found) in
    subst (AllByRecursion (IsTooth n h)) (sym all) (each_is_tooth n es h a)

pub teeth_make_comb : (n : ℕ) (h : List ℕ) (ts : List (List ℕ)) → IsSet n h → AllByRecursion (IsTooth n h) ts → AreOddMany ts → AreDisjoint ts → IsComb n h ts
teeth_make_comb n h ts s each o d = record {
  proper = handle_is_proper n h ts s o.many each;
  odd = o.odd;
  many = o.many;
  each_tooth = each;
  disjoint = d;
}

-- the comb of the teeth, or none, is the blossom, or none
pub blossom_or_none : (x : Values) (h : Members) (ts : List (List ℕ)) (o : Option Cut) → ts ≡ teeth_of x.entries h.cities → IsSet x.n h.cities → AllByRecursion (IsTooth x.n h.cities) ts
    → MatchOption o ((c : Cut) → IsViolatedComb x h.cities ts c → ⊥) (IsViolatedComb x h.cities ts) → MatchOption o ((c : Cut) → IsBlossom x h c → ⊥) (IsBlossom x h)
blossom_or_none x h ts None is s each none = λ c b. none c (record {
  whole = teeth_make_comb x.n h.cities ts s each (subst AreOddMany (sym is) b.odd) (subst AreDisjoint (sym is) b.apart);
  made = b.made ∙ ap (comb x.n h.cities) (sym is);
  violated = b.violated;
})
blossom_or_none x h ts (Some c) is s each v = record {
  odd = subst AreOddMany is (record { odd = v.whole.odd; many = v.whole.many });
  apart = subst AreDisjoint is v.whole.disjoint;
  made = v.made ∙ ap (comb x.n h.cities) is;
  violated = v.violated;
}
