-- Crossing weights: entry by entry, of equal sets, of the complement, and how large they are.
use Rattle.std.proofs.Common.{◌≡◌, ℕ, zero, suc, ◌+◌, ◌*◌, ◌^◌, ◌<◌, ◌≤◌, Bool, true, false, not, cond, List, [], ◌∷◌, ◌==◌, sum_by, pos, refl, ◌∙◌, ap, arith}
use Rattle.std.specs.Prelude.{◌≤ℤ◌}
use Rattle.std.specs.List.{All, AllByRecursion}
use Rattle.std.proofs.lemmas.Int.{ints}
use Rattle.std.proofs.lemmas.List.Elements.{All-nil, All-cons}
use Rattle.std.proofs.lemmas.List.Sums.{sum_by-cons}
use Rattle.tspdef.specs.Sums.{sum_below, sum_pairs}
use Rattle.tspdef.specs.Tours.{crosses}
use Rattle.tspdef.proofs.SumLemmas.{sum_pairs-le}
use Rattle.cyc.specs.declared.frac.Entry.{Entry}
use Rattle.cyc.specs.Frac.{Values, value_of, IsEntry, AreEntries}
use Rattle.cyc.proofs.EntryLemmas.{value_small}
use Rattle.cyc.proofs.EntrySums.{sums_by_entries}
use Rattle.std.proofs.lemmas.Bool.{ne_eqb, eq-eqb}
use Rattle.maxflow.specs.Crossings.{crossing_weight, crossing_at, crossing, IsPair}
use Rattle.maxflow.specs.Flows.{is_stop, LacksStops}

-- one where the pair crosses the set
abbrev one_if_crossed : (ℕ → Bool) → ℕ → ℕ → ℕ
one_if_crossed p u v = cond (crosses p (u, v)) 1 0

turned_case : (b c : Bool) → cond {A = ℕ} (cond b (not c) c) 1 0 ≡ cond {A = ℕ} (cond c (not b) b) 1 0
turned_case true true = refl
turned_case true false = refl
turned_case false true = refl
turned_case false false = refl

crossing_case : (b c : Bool) (x : ℕ) → x * cond (cond b (not c) c) 1 0 ≡ cond b (cond c 0 x) (cond c x 0)
crossing_case true true x = omega arith
crossing_case true false x = omega arith
crossing_case false true x = omega arith
crossing_case false false x = omega arith

sums_same : (es : List Entry) (p : ℕ → Bool) → sum_by (λ (e : Entry). e.x * one_if_crossed p e.u e.v) es ≡ crossing es p
sums_same [] p = refl
sums_same (e ∷ es) p =
    let ih = sums_same es p in
    let a = sum_by-cons (λ (f : Entry). f.x * one_if_crossed p f.u f.v) e es in
    let b : crossing (e ∷ es) p ≡ crossing_at p e + crossing es p = sum_by-cons (crossing_at p) e es in
    let c : e.x * one_if_crossed p e.u e.v ≡ crossing_at p e = crossing_case (p e.u) (p e.v) e.x in
    omega (arith, ih, a, b, c)

-- the crossing weight is the sum over the entries
pub weight_by_entries : (x : Values) (p : ℕ → Bool) → AreEntries x.n x.entries → crossing_weight x p ≡ pos (crossing x.entries p)
weight_by_entries x p a =
    sums_by_entries x.n x.entries (one_if_crossed p) a (λ u v. turned_case (p u) (p v)) ∙ ap pos (sums_same x.entries p)

-- ---- how large they are

below_flat : (c n : ℕ) → sum_below (λ k. pos c) n ≡ pos (n * c)
below_flat c zero = omega (arith, ints)
below_flat c (suc n) = let ih = below_flat c n in omega (arith, ints)

pairs_flat : (c n : ℕ) → sum_pairs (λ u v. pos c) n ≤ℤ pos (n * n * c)
pairs_flat c zero = omega (arith, ints)
pairs_flat c (suc n) = let ih = pairs_flat c n in let row = below_flat c n in omega (arith, ints)

value_case : (b : Bool) (x m : ℕ) → x ≤ m → pos (x * cond b 1 0) ≤ℤ pos m
value_case true x m h = omega (arith, ints)
value_case false x m h = omega (arith, ints)

square_few : (n c : ℕ) → n ≤ 2000 → n * n * c ≤ 4000000 * c
square_few n c h = grind arith

-- less than 2^53 crosses any set
pub crossing_small : (n : ℕ) (es : List Entry) (p : ℕ → Bool) → n ≤ 2000 → AreEntries n es → crossing es p < 2 ^ 53
crossing_small n es p few a =
    let w = weight_by_entries (record { n = n; entries = es }) p a in
    let l = sum_pairs-le (λ u v. pos (value_of es u v * one_if_crossed p u v)) (λ u v. pos 1073741824) n
    (λ u v h k. value_case (crosses p (u, v)) (value_of es u v) 1073741824 (value_small n es u v a.each)) in
    let m = pairs_flat 1073741824 n in
    let s = square_few n 1073741824 few in
    omega (arith, ints, w, l, m, s)

-- ---- equal sets

pub crossing_same : (es : List Entry) (p q : ℕ → Bool) → ((k : ℕ) → p k ≡ q k) → crossing es p ≡ crossing es q
crossing_same [] p q e = refl
crossing_same (w ∷ es) p q e =
    let ih = crossing_same es p q e in
    let u = e w.u in
    let v = e w.v in
    let a : crossing (w ∷ es) p ≡ crossing_at p w + crossing es p = sum_by-cons (crossing_at p) w es in
    let b : crossing (w ∷ es) q ≡ crossing_at q w + crossing es q = sum_by-cons (crossing_at q) w es in
    let s : crossing_at p w ≡ crossing_at q w = ap (λ t. cond t (cond (p w.v) 0 w.x) (cond (p w.v) w.x 0)) u ∙ ap (λ t. cond (q w.u) (cond t 0 w.x) (cond t w.x 0)) v in
    cc

-- ---- the set of one city

pub one_holds : (s : ℕ) → (s == s) ≡ true
one_holds s = eq-eqb s s refl

-- that of a free city has no stop
pub one_free : (n s : ℕ) (stops : List Bool) → is_stop stops s ≡ false → LacksStops n stops (λ k. k == s)
one_free n s stops free = λ k h t. ne_eqb k s (λ e. let z = ap (is_stop stops) e in cc)

pub total_fits : (value sent new old whole : ℕ) → value + old ≡ whole → new + sent ≡ old → whole < 2 ^ 53 → value + sent < 2 ^ 64
total_fits value sent new old whole b s l = omega arith

-- ---- entries are pairs

pub entries_are_pairs : (n : ℕ) (es : List Entry) → AllByRecursion (IsEntry n) es → All (IsPair n) es
entries_are_pairs n [] a = All-nil (IsPair n)
entries_are_pairs n (e ∷ es) a = All-cons (IsPair n) e es (a.0.u_below, (a.0.v_below, a.0.small)) (entries_are_pairs n es a.1)
