use Rattle.std.proofs.Common.{ℕ, arith, subst, refl}
use Rattle.std.specs.List.{AllByRecursion}
use Rattle.std.proofs.lemmas.Int.{ints}
use Rattle.tspdef.specs.Closings.{IsDualSize}
use Rattle.tspdef.specs.Bounds.{price}
use Rattle.pricer.proofs.ListLemmas.{all_front}
use Rattle.pricer.proofs.SizeLemmas.{price-cons}
use Rattle.pricer.proofs.SpreadLemmas.{sum_last}
use Rattle.pricer.proofs.duals.cliques_price.Goals as goal

abbrev HasDual : ℕ × ℕ → Type 0
HasDual q = IsDualSize q.1

pub loop-q-preserved : goal.loop-q-preserved
loop-q-preserved g c =
    let last = c.in-Some.ensures.cases in
    let sum = sum_last (λ rows. price rows c.args.u c.args.v) refl (λ row rows. price-cons row rows c.args.u c.args.v) (g.T.Trail.conditions c.args.trail) _ c.price_if-total.result _ _ c.loop-q.rest.now c.in-Some.more.now c.in-Some.q.now last.0 c.step_at-there.ensures.step c.loop-q.invariant.so_far c.price_if-total.ensures.value in
    record {
      so_far = omega (arith, ints);
      low = omega (arith, ints);
      high = omega (arith, ints);
      sizes = all_front HasDual c.in-Some.more.now c.in-Some.q.now (subst (AllByRecursion HasDual) last.0 c.loop-q.invariant.sizes);
      near = c.step_at-there.ensures.near;
      cities = c.step_at-there.ensures.cities;
    }
