use Rattle.std.proofs.Common.{◌≡◌, ◌<◌, ◌≤◌, ◌+◌, ℕ, List, length, [], ◌∷◌, ◌++◌, sym, ap, subst, ◌∙◌, arith}
use Rattle.std.proofs.lemmas.List.{get_or_read}
use Rattle.std.specs.Prelude.{slice_index}
use Rattle.cyc.specs.CitySet.{Members}
use Rattle.fracgraph.specs.Labels.{IsClass, IsFirst}
use Rattle.fracgraph.proofs.ClassLemmas.{found_push, found_single, found_other}
use Rattle.fracgraph.proofs.components.Goals as goal
use Rattle.fracgraph.proofs.components.Goals.{then-index-city+then-index-n+in_ok-cities+in_ok-set_of+in_ok-push, else-index-city, else-index-city-via-then-index-city+else-index-n, else-index-city-via-else-index-city}

class_is : (n label : ℕ) (labels read xs : List ℕ) → length labels ≡ n → read ≡ labels → IsClass (length read) read label xs → IsClass n labels label xs
class_is n label labels read xs d e h = subst (λ k. IsClass k labels label xs) d (subst (λ (ls : List ℕ). IsClass (length ls) ls label xs) e h)

pub loop-city-preserved : goal.loop-city-preserved
loop-city-preserved c =
    let x = c.args.x.now in
    let low = c.args.low in
    let high = c.args.high in
    let city = c.loop-city.city in
    let labels = c.in_ok-labels.labels.items in
    let are = c.in_ok-labels.ensures in
    let nexts = c.in_ok-nexts.nexts.items in
    let n = c.n-n.ensures.value in
    let below : city < x.n = omega arith in
    let label : c.index.result.now ≡ slice_index labels city = get_or_read labels city c.index.result.now (let l = are.long in omega arith) c.index.ensures 0 in
    let old = c.loop-city.invariant in
    let many : length nexts ≡ x.n = c.in_ok-nexts.ensures.long ∙ n in
    let after : slice_index labels city ≡ city → IsFirst x.n labels city (city + 1) (slice_index nexts city) =
    λ own. subst (λ l. IsFirst x.n labels l (city + 1) (slice_index nexts city)) own (rw (sym n, sym c.deref.ensures.value) (c.in_ok-nexts.ensures.each city c.loop-city-test.true)) in
    elim c.if-index-city.branch [
      | then-index-city+then-index-n+in_ok-cities+in_ok-set_of+in_ok-push w ↦
          let xs = w.in_ok-cities.cities.items in
          let s : Members = record { n = x.n; cities = xs } in
          let set : w.in_ok-set_of.field-0 ≡ s = w.in_ok-set_of.ensures ∙ ap (λ k. record { n = k; cities = xs }) n in
          let all = w.in_ok-push.ensures.items ∙ ap (λ t. c.loop-city.sets.items ++ t ∷ []) set in
          let own = sym label ∙ w.if-index-city.true in
          let next = get_or_read nexts city w.index-then-index-city.result.now (omega (arith, below, many)) w.index-then-index-city.ensures 0 in
          let within : slice_index nexts city < x.n = let l = w.if-index-n.true in omega (arith, next, n, l) in
          rw (w.sets-is, all) (found_push x low high labels city (slice_index nexts city) xs c.loop-city.sets.items are
          (class_is x.n city labels w.deref-then-index-n.result.now xs are.long w.deref-then-index-n.ensures.value w.in_ok-cities.ensures)
          (after own) within below own old)
      | else-index-city w ↦
          rw w.sets-is (elim w.else-index-city.branch [
            | else-index-city-via-then-index-city+else-index-n v ↦
                let own = sym label ∙ v.if-index-city.true in
                let next = get_or_read nexts city v.index-then-index-city.result.now (omega (arith, below, many)) v.index-then-index-city.ensures 0 in
                let past : x.n ≤ slice_index nexts city = let l = v.if-index-n.false in omega (arith, next, n, l) in
                found_single x low high labels city (slice_index nexts city) c.loop-city.sets.items are (after own) past old
            | else-index-city-via-else-index-city v ↦ found_other x low high labels city c.loop-city.sets.items are (λ e. v.if-index-city.false (label ∙ e)) old
          ])
    ]
