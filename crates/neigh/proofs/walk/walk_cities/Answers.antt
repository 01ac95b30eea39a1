use Rattle.std.proofs.Common.{◌≡◌, ◌+◌, ◌-◌, ◌<◌, ◌++◌, ◌∷◌, [], ℕ, suc, List, length, slice_index, sym, ◌∙◌, ap, subst, arith}
use Rattle.std.specs.List.{AllByRecursion, range_with_len}
use Rattle.tspdef.specs.Tours.{AreDistinct}
use Rattle.neigh.specs.Walk.{without, next_city, walk_on, nearest_walk}
use Rattle.neigh.proofs.ListLemmas.{below_at}
use Rattle.neigh.proofs.WalkLemmas.{range_is_tour, others_are, all_without, distinct_without, walk_more, walk_end}
use Rattle.neigh.proofs.walk.walk_cities.Goals as goal

pub leave_out-requires : goal.leave_out-requires
leave_out-requires c =
    let i = c.args.instance.now in
    let same : c.in_ok-rest.rest.items ≡ range_with_len 0 i.n = grind arith in
    subst AreDistinct (sym same) (range_is_tour i.n c.n-n.ensures.instance.many c.n-n.ensures.instance.few).distinct

pub loop-step-init : goal.loop-step-init
loop-step-init c =
    let i = c.args.instance.now in
    let s = c.start_city-here.result in
    let below : s < i.n = c.start_city-here.ensures.city in
    let o = others_are i.n s c.n-n.ensures.instance.many c.n-n.ensures.instance.few below in
    let all : c.in_ok-rest.rest.items ≡ range_with_len 0 i.n = grind arith in
    let rest : c.leave_out.new.rest.items ≡ without s (range_with_len 0 i.n) = c.leave_out.ensures ∙ ap (without s) all in
    let walk : c.push.new.self.items ≡ s ∷ [] = grind arith in
    rw (rest, walk) (record {
      here = below;
      below = o.below;
      distinct = o.distinct;
      walk = ap (λ z. z ∷ walk_on i (i.n - 1) z (without z (range_with_len 0 i.n))) c.start_city-here.ensures.start;
    })

pub next_city-requires-clause-here : goal.next_city-requires-clause-here
next_city-requires-clause-here c = c.loop-step.invariant.here

pub next_city-requires-clause-below : goal.next_city-requires-clause-below
next_city-requires-clause-below c =
    let i = c.args.instance.now in
    let rest = c.loop-step.rest.items in
    subst (λ (xs : List ℕ). (j : ℕ) → j < length xs → slice_index xs j < i.n) (sym c.deref-in-loop-step-2.ensures.value) (λ j h. below_at i.n rest j c.loop-step.invariant.below h)

pub leave_out-requires-in-loop-step : goal.leave_out-requires-in-loop-step
leave_out-requires-in-loop-step c = c.loop-step.invariant.distinct

pub loop-step-preserved : goal.loop-step-preserved
loop-step-preserved c =
    let i = c.args.instance.now in
    let v = c.loop-step.invariant in
    let rest = c.loop-step.rest.items in
    let old = c.loop-step.walk.items in
    let here = c.loop-step.here in
    let k = c.loop-step._step in
    let next = c.in_ok-here.here in
    let is : next ≡ next_city i here rest = c.in_ok-here.ensures.next ∙ ap (next_city i here) c.deref-in-loop-step-2.ensures.value in
    let gone : c.leave_out-in-loop-step.new.rest.items ≡ without next rest = c.leave_out-in-loop-step.ensures in
    let walk : c.push-in-loop-step.new.self.items ≡ old ++ next ∷ [] = grind arith in
    let left : i.n - k ≡ suc (i.n - (k + 1)) = omega arith in
    let more = walk_more i here old rest (i.n - k) (i.n - (k + 1)) left v.walk in
    record {
      here = c.in_ok-here.ensures.city;
      below = subst (AllByRecursion (λ z. z < i.n)) (sym gone) (all_without _ next rest v.below);
      distinct = subst AreDistinct (sym gone) (distinct_without next rest v.distinct);
      walk = rw (walk, gone) (subst (λ z. (old ++ z ∷ []) ++ walk_on i (i.n - (k + 1)) z (without z rest) ≡ nearest_walk i) (sym is) more);
    }

pub returns : goal.returns
returns c =
    let i = c.args.instance.now in
    walk_end i c.loop-step.here (i.n - c.loop-step._step) c.loop-step.walk.items c.loop-step.rest.items (nearest_walk i) (omega arith) c.loop-step.invariant.walk
