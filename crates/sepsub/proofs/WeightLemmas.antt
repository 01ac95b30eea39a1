-- Crossing weights of all cities, and of complements.
use Rattle.std.proofs.Common.{◌≡◌, ℕ, ◌+◌, ◌*◌, ◌<◌, Bool, true, false, not, cond, List, [], ◌∷◌, pos, refl, ap, ◌∙◌, arith}
use Rattle.std.proofs.lemmas.List.Sums.{sum_by-cons}
use Rattle.tspdef.specs.Tours.{crosses}
use Rattle.tspdef.proofs.SumLemmas.{sum_pairs-same}
use Rattle.cyc.specs.declared.frac.Entry.{Entry}
use Rattle.cyc.specs.Frac.{Values, value_of}
use Rattle.maxflow.specs.Crossings.{crossing_weight, crossing_at, crossing}

-- no pair crosses all cities
pub crossing_all : (es : List Entry) → crossing es (λ k. true) ≡ 0
crossing_all [] = refl
crossing_all (e ∷ es) =
    let ih = crossing_all es in
    let a : crossing (e ∷ es) (λ k. true) ≡ crossing_at (λ k. true) e + crossing es (λ k. true) = sum_by-cons (crossing_at (λ k. true)) e es in
    a ∙ (let y : crossing_at (λ k. true) e + crossing es (λ k. true) ≡ 0 = omega arith in y)

both_turned : (b c : Bool) → cond (not b) (not (not c)) (not c) ≡ cond b (not c) c
both_turned true true = refl
both_turned true false = refl
both_turned false true = refl
both_turned false false = refl

crosses_turned : (p q : ℕ → Bool) (u v : ℕ) → q u ≡ not (p u) → q v ≡ not (p v) → crosses q (u, v) ≡ crosses p (u, v)
crosses_turned p q u v a b = ap (λ t. cond t (not (q v)) (q v)) a ∙ ap (λ t. cond (not (p u)) (not t) t) b ∙ both_turned (p u) (p v)

-- a set and the other cities are crossed by the same
pub weight_turned : (x : Values) (p q : ℕ → Bool) → ((k : ℕ) → k < x.n → q k ≡ not (p k)) → crossing_weight x q ≡ crossing_weight x p
weight_turned x p q e = sum_pairs-same
    (λ u v. pos (value_of x.entries u v * cond (crosses q (u, v)) 1 0))
    (λ u v. pos (value_of x.entries u v * cond (crosses p (u, v)) 1 0)) x.n
    (λ u v l m. ap (λ t. pos (value_of x.entries u v * cond t 1 0)) (crosses_turned p q u v (e u (omega arith)) (e v m)))
