-- What crosses the meet and the join of two sets, and the complement of one.
use Rattle.std.proofs.Common.{◌≡◌, ℕ, ◌+◌, ◌^◌, ◌<◌, ◌≤◌, Bool, true, false, not, cond, ◌&&◌, ◌||◌, List, [], ◌∷◌, refl, ap, ◌∙◌, arith}
use Rattle.std.specs.List.{AllByRecursion}
use Rattle.std.proofs.lemmas.List.Sums.{sum_by-cons}
use Rattle.cyc.specs.declared.frac.Entry.{Entry}
use Rattle.cyc.specs.Frac.{is_listed, IsEntry, ArePairsDistinct, AreEntries}
use Rattle.maxflow.specs.Crossings.{crossing_at, crossing}
use Rattle.sepodd.specs.Folding.{folded, folded_entries}

abbrev cross : Bool → Bool → ℕ → ℕ
cross p q x = cond p (cond q 0 x) (cond q x 0)

meet_join_case : (pu qu pv qv : Bool) (x : ℕ) → cross (pu && qu) (pv && qv) x + cross (pu || qu) (pv || qv) x ≤ cross pu pv x + cross qu qv x
meet_join_case true true true true x = omega arith
meet_join_case true true true false x = omega arith
meet_join_case true true false true x = omega arith
meet_join_case true true false false x = omega arith
meet_join_case true false true true x = omega arith
meet_join_case true false true false x = omega arith
meet_join_case true false false true x = omega arith
meet_join_case true false false false x = omega arith
meet_join_case false true true true x = omega arith
meet_join_case false true true false x = omega arith
meet_join_case false true false true x = omega arith
meet_join_case false true false false x = omega arith
meet_join_case false false true true x = omega arith
meet_join_case false false true false x = omega arith
meet_join_case false false false true x = omega arith
meet_join_case false false false false x = omega arith

-- the crossing weights of meet and join are no more than those of two sets: they are submodular
pub crossing_meet_join : (es : List Entry) (p q : ℕ → Bool) → crossing es (λ k. p k && q k) + crossing es (λ k. p k || q k) ≤ crossing es p + crossing es q
crossing_meet_join [] p q = omega arith
crossing_meet_join (e ∷ es) p q =
    let ih = crossing_meet_join es p q in
    let at : crossing_at (λ k. p k && q k) e + crossing_at (λ k. p k || q k) e ≤ crossing_at p e + crossing_at q e = meet_join_case (p e.u) (q e.u) (p e.v) (q e.v) e.x in
    let s1 : crossing (e ∷ es) (λ k. p k && q k) ≡ crossing_at (λ k. p k && q k) e + crossing es (λ k. p k && q k) = sum_by-cons (crossing_at (λ k. p k && q k)) e es in
    let s2 : crossing (e ∷ es) (λ k. p k || q k) ≡ crossing_at (λ k. p k || q k) e + crossing es (λ k. p k || q k) = sum_by-cons (crossing_at (λ k. p k || q k)) e es in
    let s3 : crossing (e ∷ es) p ≡ crossing_at p e + crossing es p = sum_by-cons (crossing_at p) e es in
    let s4 : crossing (e ∷ es) q ≡ crossing_at q e + crossing es q = sum_by-cons (crossing_at q) e es in
    omega (arith, ih, at, s1, s2, s3, s4)

not_case : (pu pv : Bool) (x : ℕ) → cross (not pu) (not pv) x ≡ cross pu pv x
not_case true true x = refl
not_case true false x = refl
not_case false true x = refl
not_case false false x = refl

-- all other cities are crossed by the same
pub crossing_not : (es : List Entry) (p : ℕ → Bool) → crossing es (λ k. not (p k)) ≡ crossing es p
crossing_not [] p = refl
crossing_not (e ∷ es) p =
    let ih = crossing_not es p in
    let at : crossing_at (λ k. not (p k)) e ≡ crossing_at p e = not_case (p e.u) (p e.v) e.x in
    let s1 : crossing (e ∷ es) (λ k. not (p k)) ≡ crossing_at (λ k. not (p k)) e + crossing es (λ k. not (p k)) = sum_by-cons (crossing_at (λ k. not (p k))) e es in
    let s2 : crossing (e ∷ es) p ≡ crossing_at p e + crossing es p = sum_by-cons (crossing_at p) e es in
    omega (arith, ih, at, s1, s2)

-- it is told by the cities below n
pub crossing_within : (n : ℕ) (es : List Entry) (p q : ℕ → Bool) → AllByRecursion (IsEntry n) es → ((k : ℕ) → k < n → p k ≡ q k) → crossing es p ≡ crossing es q
crossing_within n [] p q a e = refl
crossing_within n (w ∷ es) p q a e =
    let ih = crossing_within n es p q a.1 e in
    let u = e w.u a.0.u_below in
    let v = e w.v a.0.v_below in
    let l : crossing (w ∷ es) p ≡ crossing_at p w + crossing es p = sum_by-cons (crossing_at p) w es in
    let r : crossing (w ∷ es) q ≡ crossing_at q w + crossing es q = sum_by-cons (crossing_at q) w es in
    let s : crossing_at p w ≡ crossing_at q w = ap (λ t. cond t (cond (p w.v) 0 w.x) (cond (p w.v) w.x 0)) u ∙ ap (λ t. cond (q w.u) (cond t 0 w.x) (cond t w.x 0)) v in
    omega (arith, ih, l, r, s)

-- ---- folded entries are entries

listed_folded : (es : List Entry) (u v : ℕ) → is_listed (folded_entries es) u v ≡ is_listed es u v
listed_folded [] u v = refl
listed_folded (e ∷ es) u v = let ih = listed_folded es u v in rw ih refl

distinct_folded : (es : List Entry) → ArePairsDistinct es → ArePairsDistinct (folded_entries es)
distinct_folded [] d = tt
distinct_folded (e ∷ es) d = (let z = listed_folded es e.u e.v in rw z d.0, distinct_folded es d.1)

folded_small : (x : ℕ) → folded x ≤ 2 ^ 30
folded_small x = omega arith

pub each_folded : (n : ℕ) (es : List Entry) → AllByRecursion (IsEntry n) es → AllByRecursion (IsEntry n) (folded_entries es)
each_folded n [] a = tt
each_folded n (e ∷ es) a = (record { u_below = a.0.u_below; v_below = a.0.v_below; apart = a.0.apart; small = folded_small e.x }, each_folded n es a.1)

pub folded_are_entries : (n : ℕ) (es : List Entry) → AreEntries n es → AreEntries n (folded_entries es)
folded_are_entries n es a = record { each = each_folded n es a.each; distinct = distinct_folded es a.distinct }
