-- Few entries are above a half, since the values at each city add up to little more than two.
use Rattle.std.proofs.Common.{◌≡◌, ℕ, zero, suc, ◌+◌, ◌*◌, ◌<◌, ◌≤◌, Bool, true, false, cond, eqb, ◌==◌, List, [], ◌∷◌, pos, refl, sym, ◌∙◌, arith, ⊎_elim}
use Rattle.std.specs.Prelude.{◌+ℤ◌}
use Rattle.std.specs.List.{AllByRecursion}
use Rattle.std.proofs.lemmas.Int.{ints}
use Rattle.std.proofs.lemmas.Bool.{cases_Bool, cond-true, cond-false, ltb-true, eqb-true}
use Rattle.std.proofs.lemmas.List.Sums.{sum_by-cons}
use Rattle.tspdef.specs.Sums.{sum_below}
use Rattle.tspdef.proofs.SumLemmas.{sum_below-same, sum_below-le, sum_below-add, sum_below-zero, sum_below-at}
use Rattle.cyc.specs.declared.frac.Entry.{Entry}
use Rattle.cyc.specs.Frac.{IsEntry}
use Rattle.maxflow.specs.Crossings.{crossing_at, crossing}
use Rattle.sepodd.specs.Folding.{is_over}

abbrev pub total : List Entry → ℕ
total [] = 0
total (e ∷ es) = e.x + total es

-- how many entries are above a half
abbrev pub overs : List Entry → ℕ
overs [] = 0
overs (e ∷ es) = cond (is_over e.x) 1 0 + overs es

pub overs_few : (es : List Entry) → 524289 * overs es ≤ total es
overs_few [] = omega arith
overs_few (e ∷ es) =
    let ih = overs_few es in
    ⊎_elim
    (λ (t : is_over e.x ≡ true). let m = ltb-true 524288 e.x t in let c : cond {A = ℕ} (is_over e.x) 1 0 ≡ 1 = cond-true (is_over e.x) 1 0 t in omega (arith, ih, m, c))
    (λ (f : is_over e.x ≡ false). let c : cond {A = ℕ} (is_over e.x) 1 0 ≡ 0 = cond-false (is_over e.x) 1 0 f in omega (arith, ih, c))
    (cases_Bool (is_over e.x))

abbrev ends : Entry → ℕ → ℕ
ends e k = cond (e.u == k) (cond (e.v == k) 0 e.x) (cond (e.v == k) e.x 0)

ends_case : (a b : Bool) (x : ℕ) → (a ≡ true → b ≡ true → ⊥) → pos (cond a (cond b 0 x) (cond b x 0)) ≡ cond a (pos x) (pos 0) +ℤ cond b (pos x) (pos 0)
ends_case true true x h = absurd (h refl refl)
ends_case true false x h = omega (arith, ints)
ends_case false true x h = omega (arith, ints)
ends_case false false x h = omega (arith, ints)

-- an entry's value is at both of its cities
at_both : (n : ℕ) (e : Entry) → IsEntry n e → sum_below (λ k. pos (crossing_at (λ j. j == k) e)) n ≡ pos (2 * e.x)
at_both n e i =
    let split = sum_below-same (λ k. pos (crossing_at (λ j. j == k) e)) (λ k. cond (eqb e.u k) (pos e.x) (pos 0) +ℤ cond (eqb e.v k) (pos e.x) (pos 0)) n
    (λ k h. ends_case (e.u == k) (e.v == k) e.x (λ a b. i.apart (eqb-true e.u k a ∙ sym (eqb-true e.v k b)))) in
    let add = sum_below-add (λ k. cond (eqb e.u k) (pos e.x) (pos 0)) (λ k. cond (eqb e.v k) (pos e.x) (pos 0)) n in
    let one = sum_below-at (λ k. pos e.x) e.u n i.u_below in
    let two = sum_below-at (λ k. pos e.x) e.v n i.v_below in
    omega (arith, ints, split, add, one, two)

-- the degrees add up to twice the values
degrees_sum : (n : ℕ) (es : List Entry) → AllByRecursion (IsEntry n) es → sum_below (λ k. pos (crossing es (λ j. j == k))) n ≡ pos (2 * total es)
degrees_sum n [] a = sum_below-zero n
degrees_sum n (e ∷ es) a =
    let ih = degrees_sum n es a.1 in
    let at = at_both n e a.0 in
    let split = sum_below-same (λ k. pos (crossing (e ∷ es) (λ j. j == k))) (λ k. pos (crossing_at (λ j. j == k) e) +ℤ pos (crossing es (λ j. j == k))) n
    (λ k h. let s : crossing (e ∷ es) (λ j. j == k) ≡ crossing_at (λ j. j == k) e + crossing es (λ j. j == k) = sum_by-cons (crossing_at (λ j. j == k)) e es in omega (arith, ints, s)) in
    let add = sum_below-add (λ k. pos (crossing_at (λ j. j == k) e)) (λ k. pos (crossing es (λ j. j == k))) n in
    omega (arith, ints, ih, at, split, add)

flat : (c n : ℕ) → sum_below (λ k. pos c) n ≡ pos (n * c)
flat c zero = omega (arith, ints)
flat c (suc n) = let ih = flat c n in omega (arith, ints)

few_enough : (n t : ℕ) → n ≤ 2000 → 2 * t ≤ n * 2098176 → t ≤ 2098176000
few_enough n t few l = omega (arith, few, l)

pub overs_at_most : (n : ℕ) (es : List Entry) → n ≤ 2000 → AllByRecursion (IsEntry n) es → ((k : ℕ) → k < n → crossing es (λ j. j == k) ≤ 2098176) → overs es ≤ 4001
overs_at_most n es few a degrees =
    let sum = degrees_sum n es a in
    let le = sum_below-le (λ k. pos (crossing es (λ j. j == k))) (λ k. pos 2098176) n (λ k h. let d = degrees k h in omega (arith, ints, d)) in
    let f = flat 2098176 n in
    let t : 2 * total es ≤ n * 2098176 = omega (arith, ints, sum, le, f) in
    let m = few_enough n (total es) few t in
    let o = overs_few es in
    omega (arith, m, o)
