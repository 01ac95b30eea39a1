-- Light sets as subtour cuts.
use Rattle.std.proofs.Common.{◌≡◌, ℕ, ◌+◌, ◌*◌, ◌≤◌, cond, List, [], ◌∷◌, pos, ap, arith}
use Rattle.std.proofs.lemmas.Int.{ints}
use Rattle.tspdef.specs.Sets.{has}
use Rattle.tspdef.specs.Sums.{sum_pairs}
use Rattle.tspdef.specs.Tours.{crosses}
use Rattle.tspdef.specs.Cuts.{subtour, coefficient}
use Rattle.tspdef.proofs.SumLemmas.{sum_pairs-same}
use Rattle.cyc.specs.CitySet.{Members}
use Rattle.cyc.specs.Frac.{Values, value_of}
use Rattle.maxflow.specs.Crossings.{crossing_weight}
use Rattle.sepsub.specs.LeastSets.{IsLeastSet, IsViolated}
use Rattle.sepsub.specs.declared.LeastSet.{LeastSet}
use Rattle.sepblos.specs.Violated.{IsWorth}
use Rattle.grunt.specs.Missed.{HasNoLightSet}

-- the left side of a subtour cut is the crossing weight of its set
left_side : (x : Values) (s : List ℕ) → sum_pairs (λ u v. pos (value_of x.entries u v * coefficient (s ∷ []) u v)) x.n ≡ crossing_weight x (has s)
left_side x s = sum_pairs-same _ _ x.n (λ u v l m. ap (λ k. pos (value_of x.entries u v * k)) (let k = cond (crosses (has s) (u, v)) 1 0 in let e : k + 0 ≡ k = omega arith in e))

pub light_is_missed : (x : Values) (s : Members) → IsViolated x s → IsWorth x (subtour s.n s.cities)
light_is_missed x s v =
    let e = left_side x s.cities in
    let l = v.light in
    record {
      is_cut = (v.cities, v.proper);
      violated = omega (arith, ints);
    }

pub heavy_least : (x : Values) (l : LeastSet) → IsLeastSet x l → 2096128 ≤ l.weight → HasNoLightSet x
heavy_least x l is heavy s proper = let a = is.least s proper in omega (arith, ints)
