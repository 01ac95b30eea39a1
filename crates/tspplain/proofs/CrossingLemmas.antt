-- What crosses a set: how large it is at most.
use Rattle.std.proofs.Common.{◌≡◌, ℕ, zero, suc, ◌+◌, ◌-◌, ◌*◌, ◌^◌, ◌<◌, ◌≤◌, min, Bool, true, false, not, cond, ◌&&◌, List, [], ◌∷◌, ◌++◌, length, take, get_or, sum_by, ℤ, pos, refl, sym, ◌∙◌, ap, subst, arith, inl, inr, ⊎_elim}
use Rattle.std.specs.Prelude.{◌%◌, ◌≤ℤ◌, nat_lt, bit_or}
use Rattle.std.proofs.Math.Nat.{mul-le-mul_right}
use Rattle.std.proofs.lemmas.Bool.{cases_lt, lt-ltb, le-ltb}
use Rattle.std.proofs.lemmas.Int.{ints}
use Rattle.std.specs.Global.{Vec}
use Rattle.std.specs.List.{All, AllByRecursion}
use Rattle.std.proofs.lemmas.List.Elements.{All-push}
use Rattle.std.proofs.lemmas.List.Sums.{sum_by-cons, sum_by_more, sum_by-take-le}
use Rattle.tspdef.specs.Sums.{sum_below, sum_pairs}
use Rattle.tspdef.specs.Tours.{crosses}
use Rattle.tspdef.proofs.SumLemmas.{sum_pairs-le, sum_pairs-same}
use Rattle.cyc.specs.declared.frac.Entry.{Entry}
use Rattle.cyc.specs.Frac.{Values, value_of, IsEntry, AreEntries}
use Rattle.cyc.proofs.EntryLemmas.{value_small}
use Rattle.cyc.proofs.EntrySums.{sums_by_entries}
use Rattle.tspplain.specs.Bits.{bit_of, in_bits, has_part}
use Rattle.tspplain.specs.Crossings.{crosses_bits, entry_crossing, crossing_of, crossing_weight, IsLeastCrossing, asked_of, IsMissedComb}
use Rattle.tspplain.proofs.BitLemmas.{parted, others, others_crossed, others_lower, some_others}

-- one where the pair crosses the set
abbrev one_if_crossed : ℕ → ℕ → ℕ → ℕ
one_if_crossed set u v = cond (crosses_bits set u v) 1 0

turned_case : (p q b c : Bool) → (p && (q && cond b (not c) c)) ≡ (q && (p && cond c (not b) b))
turned_case true true true true = refl
turned_case true true true false = refl
turned_case true true false true = refl
turned_case true true false false = refl
turned_case true false b c = refl
turned_case false true b c = refl
turned_case false false b c = refl

turned : (set u v : ℕ) → one_if_crossed set u v ≡ one_if_crossed set v u
turned set u v = ap (λ b. cond b 1 0) (turned_case (nat_lt u 32) (nat_lt v 32) (in_bits set u) (in_bits set v))

at_entry : (b : Bool) (x : ℕ) → x * cond b 1 0 ≡ cond b x 0
at_entry true x = omega arith
at_entry false x = omega arith

sums_same : (es : List Entry) (set : ℕ) → sum_by (λ (e : Entry). e.x * one_if_crossed set e.u e.v) es ≡ sum_by (entry_crossing set) es
sums_same [] set = refl
sums_same (e ∷ es) set =
    let ih = sums_same es set in
    let a = sum_by-cons (λ (f : Entry). f.x * one_if_crossed set f.u f.v) e es in
    let b = sum_by-cons (entry_crossing set) e es in
    let c : e.x * one_if_crossed set e.u e.v ≡ entry_crossing set e = at_entry (crosses_bits set e.u e.v) e.x in
    omega (arith, ih, a, b, c)

below_flat : (c n : ℕ) → sum_below (λ k. pos c) n ≡ pos (n * c)
below_flat c zero = omega (arith, ints)
below_flat c (suc n) = let ih = below_flat c n in omega (arith, ints)

-- at most c for a pair below 32, else nothing
abbrev cap : ℕ → ℕ → ℕ → ℤ
cap c u v = pos (cond (nat_lt v 32) c 0)

row_cap : (c v : ℕ) → v * cond (nat_lt v 32) c 0 ≤ cond (nat_lt v 32) (32 * c) 0
row_cap c v = ⊎_elim
    (λ below. let t : nat_lt v 32 ≡ true = lt-ltb v 32 below in rw t (mul-le-mul_right c (omega arith)))
    (λ past. let f : nat_lt v 32 ≡ false = le-ltb v 32 past in rw f (omega arith))
    (cases_lt v 32)

cap_more : (c n : ℕ) → min n 32 * (32 * c) + cond (nat_lt n 32) (32 * c) 0 ≡ min (suc n) 32 * (32 * c)
cap_more c n = ⊎_elim
    (λ below.
    let t : nat_lt n 32 ≡ true = lt-ltb n 32 below in
    let l : min n 32 ≡ n = omega arith in
    let r : min (suc n) 32 ≡ suc n = omega arith in
    rw (t, l, r) (omega arith))
    (λ past.
    let f : nat_lt n 32 ≡ false = le-ltb n 32 past in
    let l : min n 32 ≡ 32 = omega arith in
    let r : min (suc n) 32 ≡ 32 = omega arith in
    rw (f, l, r) (omega arith))
    (cases_lt n 32)

pairs_cap : (c n : ℕ) → sum_pairs (cap c) n ≤ℤ pos (min n 32 * (32 * c))
pairs_cap c zero = omega (arith, ints)
pairs_cap c (suc n) =
    let ih = pairs_cap c n in
    let row = below_flat (cond (nat_lt n 32) c 0) n in
    let r = row_cap c n in
    let m = cap_more c n in
    omega (arith, ints, ih, row, r, m)

value_case : (p q b : Bool) (x m : ℕ) → x ≤ m → pos (x * cond (p && (q && b)) 1 0) ≤ℤ pos (cond q m 0)
value_case true true true x m h = omega (arith, ints)
value_case true true false x m h = omega (arith, ints)
value_case true false b x m h = omega (arith, ints)
value_case false true b x m h = omega (arith, ints)
value_case false false b x m h = omega (arith, ints)

-- no set is crossed by more than 2^40, as no pair with a city from 32 on crosses one
pub crossing_small : (n : ℕ) (es : List Entry) (set : ℕ) → AreEntries n es → crossing_of es set ≤ 2 ^ 40
unfolding crossing_of
crossing_small n es set a =
    let w = sums_by_entries n es (one_if_crossed set) a (turned set) ∙ ap pos (sums_same es set) in
    let l = sum_pairs-le (λ u v. pos (value_of es u v * one_if_crossed set u v)) (cap 1073741824) n
    (λ u v h k. value_case (nat_lt u 32) (nat_lt v 32) (crosses (in_bits set) (u, v)) (value_of es u v) 1073741824 (value_small n es u v a.each)) in
    let m = pairs_cap 1073741824 n in
    omega (arith, ints, w, l, m)

-- one more entry
pub crossing_more : (es : List Entry) (set i : ℕ) (d : Entry) → i < length es → crossing_of (take (i + 1) es) set ≡ crossing_of (take i es) set + entry_crossing set (get_or es i d)
unfolding crossing_of
crossing_more es set i d h = sum_by_more (entry_crossing set) es i d h

pub crossing_part : (es : List Entry) (set i : ℕ) → crossing_of (take i es) set ≤ crossing_of es set
unfolding crossing_of
crossing_part es set i = sum_by-take-le (entry_crossing set) es i

crossed : (b : Bool) (x : ℕ) → b ≡ true → cond b x 0 ≡ x
crossed b x e = ap (λ c. cond c x 0) e

not_crossed : (b : Bool) (x : ℕ) → b ≡ false → cond b x 0 ≡ 0
not_crossed b x e = ap (λ c. cond c x 0) e

no_wrap : (sum x more all : ℕ) → more ≡ sum + x → more ≤ all → all ≤ 2 ^ 40 → (sum + x) % 2 ^ 64 ≡ more
no_wrap sum x more all e h k = omega arith

-- the sum with an entry that the set parts
pub sum_with : (n : ℕ) (es : List Entry) (set i : ℕ) (d : Entry) (sum : ℕ) → AreEntries n es → i < length es → sum ≡ crossing_of (take i es) set
    → has_part set (bit_or (bit_of (get_or es i d).u) (bit_of (get_or es i d).v)) ≡ true
    → (sum + (get_or es i d).x) % 2 ^ 64 ≡ crossing_of (take (i + 1) es) set
sum_with n es set i d sum a h s t =
    let e = get_or es i d in
    let here : entry_crossing set e ≡ e.x = crossed (crosses_bits set e.u e.v) e.x (sym (parted set e.u e.v) ∙ t) in
    let more : crossing_of (take (i + 1) es) set ≡ sum + e.x = crossing_more es set i d h ∙ ap (λ k. k + entry_crossing set e) (sym s) ∙ ap (λ k. sum + k) here in
    no_wrap sum e.x (crossing_of (take (i + 1) es) set) (crossing_of es set) more (crossing_part es set (i + 1)) (crossing_small n es set a)

-- the sum with another entry
pub sum_without : (es : List Entry) (set i : ℕ) (d : Entry) (sum : ℕ) → i < length es → sum ≡ crossing_of (take i es) set
    → has_part set (bit_or (bit_of (get_or es i d).u) (bit_of (get_or es i d).v)) ≡ false
    → sum ≡ crossing_of (take (i + 1) es) set
sum_without es set i d sum h s t =
    let e = get_or es i d in
    let here : entry_crossing set e ≡ 0 = not_crossed (crosses_bits set e.u e.v) e.x (sym (parted set e.u e.v) ∙ t) in
    let more = crossing_more es set i d h in
    omega (arith, here, more, s)

-- ---- the least of what crosses some sets

-- one more set, of the kind or not
pub least_with : (es : List Entry) (limit : ℕ) (kind : ℕ → Type 0) (least : ℕ) → IsLeastCrossing es limit kind least → kind limit
    → IsLeastCrossing es (limit + 1) kind (min least (crossing_of es limit))
least_with es limit kind least l k = record {
  within = λ set below is. ⊎_elim
      (λ lt. let w = l.within set lt is in omega arith)
      (λ ge. let e : limit ≡ set = omega arith in subst (λ s. min least (crossing_of es limit) ≤ crossing_of es s) e (omega arith))
      (cases_lt set limit);
  attained = ⊎_elim
      (λ lt. inr (limit, (omega arith, (k, omega arith))))
      (λ ge. ⊎_elim
      (λ most. inl (omega arith))
      (λ some. inr (some.0, (let b = some.1.0 in omega arith, (some.1.1.0, let e = some.1.1.1 in omega arith))))
      l.attained)
      (cases_lt (crossing_of es limit) least);
}

pub least_without : (es : List Entry) (limit : ℕ) (kind : ℕ → Type 0) (least : ℕ) → IsLeastCrossing es limit kind least → (kind limit → ⊥)
    → IsLeastCrossing es (limit + 1) kind least
least_without es limit kind least l other = record {
  within = λ set below is. ⊎_elim
      (λ lt. l.within set lt is)
      (λ ge. let e : set ≡ limit = omega arith in absurd (other (subst kind e is)))
      (cases_lt set limit);
  attained = ⊎_elim
      (λ most. inl most)
      (λ some. inr (some.0, (let b = some.1.0 in omega arith, (some.1.1.0, some.1.1.1))))
      l.attained;
}

-- ---- over all pairs

guards : (p q b : Bool) → p ≡ true → q ≡ true → (p && (q && b)) ≡ b
guards p q b e f = ap (λ c. c && (q && b)) e ∙ ap (λ c. c && b) f

-- the sum over the entries is that over all pairs, where each city has a bit
pub by_pairs : (x : Values) (set : ℕ) → AreEntries x.n x.entries → x.n ≤ 32 → pos (crossing_of x.entries set) ≡ crossing_weight x set
unfolding crossing_of
by_pairs x set a few =
    sym (sums_by_entries x.n x.entries (one_if_crossed set) a (turned set) ∙ ap pos (sums_same x.entries set))
    ∙ sum_pairs-same (λ u v. pos (value_of x.entries u v * one_if_crossed set u v)) (λ u v. pos (value_of x.entries u v * cond (crosses (in_bits set) (u, v)) 1 0)) x.n
    (λ u v l m. ap (λ b. pos (value_of x.entries u v * cond b 1 0)) (guards (nat_lt u 32) (nat_lt v 32) (crosses (in_bits set) (u, v)) (lt-ltb u 32 (omega arith)) (lt-ltb v 32 (omega arith))))

-- ---- what is asked of few sets

pub asked_plainly : (sets : ℕ) → 0 < sets → sets ≤ 2 ^ 20 → asked_of sets ≡ (3 * sets - 2) * 2 ^ 20
asked_plainly sets h k = omega arith

-- ---- the combs found so far

abbrev pub AreMissedCombs : List Entry → List (Vec ℕ) → Type 0
AreMissedCombs es found = All (λ sets. IsMissedComb es sets.items) found

-- one more, by what the push and the test say
pub found_more : (es : List Entry) (before after : List (Vec ℕ)) (sets : Vec ℕ) (list : List ℕ)
    → AreMissedCombs es before → after ≡ before ++ sets ∷ [] → list ≡ sets.items → IsMissedComb es list → AreMissedCombs es after
found_more es before after sets list a e f h =
    subst (AreMissedCombs es) (sym e) (All-push (λ (s : Vec ℕ). IsMissedComb es s.items) before sets a (subst (IsMissedComb es) f h))

-- ---- sets with the last city

crossing_of_others : (n set : ℕ) (es : List Entry) → AllByRecursion (IsEntry n) es → crossing_of es (others n set) ≡ crossing_of es set
unfolding crossing_of
crossing_of_others n set [] a = refl
crossing_of_others n set (e ∷ es) a =
    let ih : sum_by (entry_crossing (others n set)) es ≡ sum_by (entry_crossing set) es = crossing_of_others n set es a.1 in
    let one = sum_by-cons (entry_crossing (others n set)) e es in
    let two = sum_by-cons (entry_crossing set) e es in
    let here : entry_crossing (others n set) e ≡ entry_crossing set e = ap (λ b. cond b e.x 0) (others_crossed n set e.u e.v a.0.u_below a.0.v_below) in
    omega (arith, ih, one, two, here)

-- the least of the sets without the last city is the least of all proper ones
pub least_of_proper : (m : ℕ) (es : List Entry) (least set : ℕ) → IsLeastCrossing es (2 ^ m) (λ s. 0 < s) least → AllByRecursion (IsEntry (m + 1)) es
    → 0 < set → set + 1 < 2 ^ (m + 1) → least ≤ crossing_of es set
least_of_proper m es least set l a some less = ⊎_elim
    (λ lower. l.within set lower some)
    (λ upper.
    let same = crossing_of_others (m + 1) set es a in
    let w = l.within (others (m + 1) set) (others_lower m set upper (omega arith)) (some_others m set less) in
    omega (arith, same, w))
    (cases_lt set (2 ^ m))
