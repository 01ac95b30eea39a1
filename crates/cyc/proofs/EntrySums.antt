-- Sums over pairs, entry by entry.
use Rattle.std.proofs.Common.{◌≡◌, ℕ, ◌*◌, Bool, true, false, cond, List, [], ◌∷◌, pos, ◌+ℤ◌, refl, ap, ◌∙◌, arith}
use Rattle.std.proofs.lemmas.Int.{ints}
use Rattle.std.proofs.lemmas.List.Sums.{sum_by-cons}
use Rattle.tspdef.specs.Tours.{joins}
use Rattle.tspdef.proofs.SumLemmas.{sum_pairs-same, sum_pairs-add, sum_pairs-zero, sum_pairs-at}
use Rattle.cyc.specs.declared.frac.Entry.{Entry}
use Rattle.cyc.specs.Frac.{value_of, is_listed}
use Rattle.cyc.specs.Laws.{SumsGoByEntries}
use Rattle.cyc.proofs.EntryLemmas.{listed_same, value_unlisted}

-- what the first entry adds at a pair of weight w, where j tells that it is of the pair
parts_by : (j : Bool) (x others w : ℕ) → (j ≡ true → others ≡ 0) → pos (cond j x others * w) ≡ pos (others * w) +ℤ cond j (pos (x * w)) (pos 0)
parts_by true x others w none = let e = none refl in rw e (omega (arith, ints))
parts_by false x others w none = omega (arith, ints)

value_parts : (weight : ℕ → ℕ → ℕ) (e : Entry) (es : List Entry) (u v : ℕ) → is_listed es e.u e.v ≡ false
    → pos (value_of (e ∷ es) u v * weight u v) ≡ pos (value_of es u v * weight u v) +ℤ cond (joins u v (e.u, e.v)) (pos (e.x * weight u v)) (pos 0)
value_parts weight e es u v fresh =
    parts_by (joins u v (e.u, e.v)) e.x (value_of es u v) (weight u v) (λ j. value_unlisted es u v (listed_same es u v e.u e.v j ∙ fresh))

nothing_at : (w : ℕ) → pos (0 * w) ≡ pos 0
nothing_at w = omega (arith, ints)

pub sums_by_entries : SumsGoByEntries
sums_by_entries n [] weight a even = sum_pairs-same _ (λ u v. pos 0) n (λ u v l m. nothing_at (weight u v)) ∙ sum_pairs-zero n
sums_by_entries n (e ∷ es) weight a even =
    let others = sums_by_entries n es weight (record { each = a.each.1; distinct = a.distinct.1 }) even in
    let first = sum_pairs-at (λ u v. pos (e.x * weight u v)) (λ u v. ap (λ w. pos (e.x * w)) (even u v)) e.u e.v n a.each.0.apart a.each.0.u_below a.each.0.v_below in
    let split = sum_pairs-same (λ u v. pos (value_of (e ∷ es) u v * weight u v))
    (λ u v. pos (value_of es u v * weight u v) +ℤ cond (joins u v (e.u, e.v)) (pos (e.x * weight u v)) (pos 0)) n
    (λ u v l m. value_parts weight e es u v a.distinct.0) in
    let add = sum_pairs-add (λ u v. pos (value_of es u v * weight u v)) (λ u v. cond (joins u v (e.u, e.v)) (pos (e.x * weight u v)) (pos 0)) n in
    let total = sum_by-cons (λ (f : Entry). f.x * weight f.u f.v) e es in
    split ∙ add ∙ omega (arith, ints, others, first, total)
