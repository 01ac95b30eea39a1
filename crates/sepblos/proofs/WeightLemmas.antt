-- What values add up to over a cut, entry by entry, and how large that is.
use Rattle.std.proofs.Common.{◌≡◌, ℕ, zero, suc, ◌+◌, ◌*◌, ◌^◌, ◌<◌, ◌≤◌, Bool, true, false, not, cond, List, [], ◌∷◌, length, take, get_or, sum_by, ℤ, leb, pos, ◌-ℤ◌, refl, ap, arith}
use Rattle.std.specs.Prelude.{◌+ℤ◌, ◌≤ℤ◌}
use Rattle.std.proofs.Math.Nat.{mul-le-mul}
use Rattle.std.proofs.lemmas.Bool.{leb-true, le-leb}
use Rattle.std.proofs.lemmas.Int.{ints}
use Rattle.std.proofs.lemmas.List.Elements.{All-from_recursion}
use Rattle.tspdef.specs.Sets.{has}
use Rattle.tspdef.specs.Sums.{sum_below, sum_pairs}
use Rattle.tspdef.specs.Cuts.{Cut, sets_of, right_side, coefficient, IsCut}
use Rattle.tspdef.specs.Bounds.{scale, violation}
use Rattle.tspdef.proofs.SumLemmas.{sum_pairs-le}
use Rattle.cutform.proofs.PartLemmas.{coefficient_few}
use Rattle.cyc.specs.declared.frac.Entry.{Entry}
use Rattle.cyc.specs.Frac.{Values, value_of, IsEntry, AreEntries}
use Rattle.cyc.proofs.EntryLemmas.{value_small, entries_take}
use Rattle.cyc.proofs.EntrySums.{sums_by_entries}

-- the sum of value * coefficient over the entries
abbrev pub weight_of : List Entry → List (List ℕ) → ℕ
weight_of es sets = sum_by (λ e. e.x * coefficient sets e.u e.v) es

pub turned_case : (b c : Bool) → cond b (not c) c ≡ cond c (not b) b
turned_case true true = refl
turned_case true false = refl
turned_case false true = refl
turned_case false false = refl

coefficient_turned : (ss : List (List ℕ)) (u v : ℕ) → coefficient ss u v ≡ coefficient ss v u
coefficient_turned [] u v = refl
coefficient_turned (s ∷ ss) u v =
    let ih = coefficient_turned ss u v in
    let e = ap (λ b. cond {A = ℕ} b 1 0) (turned_case (has s u) (has s v)) in
    omega arith

-- the sum over all pairs is that over the entries
sum_is : (n : ℕ) (es : List Entry) (ss : List (List ℕ)) → AreEntries n es → sum_pairs (λ u v. pos (value_of es u v * coefficient ss u v)) n ≡ pos (weight_of es ss)
sum_is n es ss a = sums_by_entries n es (coefficient ss) a (coefficient_turned ss)

pub violation_by_entries : (x : Values) (c : Cut) → AreEntries x.n x.entries → violation (value_of x.entries) x.n c ≡ pos (scale * right_side c) -ℤ pos (weight_of x.entries (sets_of c))
violation_by_entries x c a = ap (λ k. pos (scale * right_side c) -ℤ k) (sum_is x.n x.entries (sets_of c) a)

-- ---- how large it is

below_flat : (c n : ℕ) → sum_below (λ k. pos c) n ≡ pos (n * c)
below_flat c zero = omega (arith, ints)
below_flat c (suc n) = let ih = below_flat c n in omega (arith, ints)

-- twice the sum of one number over all pairs
pairs_flat : (c n : ℕ) → (sum_pairs (λ u v. pos c) n +ℤ sum_pairs (λ u v. pos c) n) ≤ℤ pos (n * n * c)
pairs_flat c zero = omega (arith, ints)
pairs_flat c (suc n) = let ih = pairs_flat c n in let row = below_flat c n in omega (arith, ints)

square_few : (n c : ℕ) → n ≤ 2000 → n * n * c ≤ 4000000 * c
square_few n c h = grind arith

-- 3,999 times a value at most
pub times_most : (x c m : ℕ) → x ≤ m → c ≤ 3999 → x * c ≤ 3999 * m
times_most x c m h k = let p = mul-le-mul h k in omega (arith, p)

product_case : (x c : ℕ) → x ≤ 1073741824 → c ≤ 3999 → pos (x * c) ≤ℤ pos 4293893554176
product_case x c h k = let t = times_most x c 1073741824 h k in omega (arith, ints, t)

weight_small : (n : ℕ) (es : List Entry) (ss : List (List ℕ)) → n ≤ 2000 → AreEntries n es → ((u v : ℕ) → coefficient ss u v ≤ 3999) → weight_of es ss < 2 ^ 63
weight_small n es ss few a most =
    let w = sum_is n es ss a in
    let l = sum_pairs-le (λ u v. pos (value_of es u v * coefficient ss u v)) (λ u v. pos 4293893554176) n
    (λ u v h k. product_case (value_of es u v) (coefficient ss u v) (value_small n es u v a.each) (most u v)) in
    let m = pairs_flat 4293893554176 n in
    let s = square_few n 4293893554176 few in
    omega (arith, ints, w, l, m, s)

pub weight_fits : (n : ℕ) (es : List Entry) (i : ℕ) (c : Cut) → n ≤ 2000 → AreEntries n es → IsCut n c → weight_of (take i es) (sets_of c) < 2 ^ 63
weight_fits n es i c few a is = weight_small n (take i es) (sets_of c) few (entries_take n i es a) (λ u v. coefficient_few n c u v few is)

pub entry_small : (n : ℕ) (es : List Entry) (i : ℕ) (d : Entry) → AreEntries n es → i < length es → (get_or es i d).x ≤ 2 ^ 30
entry_small n es i d a h = (All-from_recursion (IsEntry n) es a.each i d h).small

-- ---- the test

pub worth_from_test : (w r : ℕ) (v : ℤ) → v ≡ pos (1048576 * r) -ℤ pos w → leb (w + 1024) (r * 1048576) ≡ true → pos 1024 ≤ℤ v
worth_from_test w r v e t = let l = leb-true (w + 1024) (r * 1048576) t in omega (arith, ints, e, l)

pub test_from_worth : (w r : ℕ) (v : ℤ) → v ≡ pos (1048576 * r) -ℤ pos w → pos 1024 ≤ℤ v → leb (w + 1024) (r * 1048576) ≡ true
test_from_worth w r v e h = le-leb (w + 1024) (r * 1048576) (omega (arith, ints, e, h))
