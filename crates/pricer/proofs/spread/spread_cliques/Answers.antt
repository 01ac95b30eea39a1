use Rattle.std.proofs.Common.{◌≡◌, ℕ, length, ◌+ℤ◌, arith, subst, List, ◌++◌, ◌∷◌, []}
use Rattle.std.specs.Prelude.{ℤ, Option}
use Rattle.std.specs.List.{AllByRecursion}
use Rattle.std.proofs.lemmas.Int.{ints}
use Rattle.tspdef.specs.Closings.{IsDualSize}
use Rattle.tspdef.specs.Paths.{Condition, condition_at}
use Rattle.tspdef.specs.Bounds.{condition_row, condition_rows}
use Rattle.pricer.specs.Prices.{at, held}
use Rattle.pricer.proofs.ListLemmas.{all_front, all_last}
use Rattle.pricer.proofs.SpreadLemmas.{conds_number_size, held_last, proper_set_wider}
use Rattle.pricer.proofs.spread.spread_cliques.Goals as goal

abbrev HasDual : ℕ × ℕ → Type 0
HasDual q = IsDualSize q.1

pub spread_if-requires-clause-set : goal.spread_if-requires-clause-set
spread_if-requires-clause-set g c =
    let long = c.requires.long in
    let same = c.requires.cities in
    let kept = c.loop-q.auto.numbers in
    rw c.step_at-there.ensures.step (proper_set_wider (g.T.Trail.cities c.args.trail) (length c.loop-q.numbers) (condition_at (g.T.Trail.conditions c.args.trail) c.in-Some.q.now.0) (omega arith) c.step_at-there.ensures.set)

pub spread_if-requires-clause-dual : goal.spread_if-requires-clause-dual
spread_if-requires-clause-dual g c = (all_last HasDual c.in-Some.more.now c.in-Some.q.now (subst (AllByRecursion HasDual) c.in-Some.ensures.cases.0 c.loop-q.invariant.sizes)).1

pub spread_if-requires-clause-numbers : goal.spread_if-requires-clause-numbers
spread_if-requires-clause-numbers g c = λ v.
    conds_number_size (g.T.Trail.conditions c.args.trail) _ (at c.args.numbers.now v) c.args.holder c.args.conds.now c.loop-q.rest.now v
    c.requires.few c.loop-q.invariant.few c.requires.sizes c.loop-q.invariant.sizes (c.requires.numbers v) (c.loop-q.invariant.so_far v)

step : (path : List Condition) (x y t : ℤ) (holder : _) (o : Option Condition) (rest more : List (ℕ × ℕ)) (q : ℕ × ℕ) (v : ℕ) → rest ≡ more ++ q ∷ [] → o ≡ condition_at path q.0
    → x +ℤ held holder (condition_rows path rest) v ≡ t → y ≡ x +ℤ held holder (condition_row o q.1 ∷ []) v → y +ℤ held holder (condition_rows path more) v ≡ t
step path x y t holder o rest more q v e is so_far one =
    let before = rw e at so_far in
    let now = rw is at one in
    let last = held_last holder path more q v in
    omega (arith, ints)

pub loop-q-preserved : goal.loop-q-preserved
loop-q-preserved g c =
    let last = c.in-Some.ensures.cases in
    record {
      so_far = λ v. step (g.T.Trail.conditions c.args.trail) _ _ _ c.args.holder _ c.loop-q.rest.now c.in-Some.more.now c.in-Some.q.now v last.0 c.step_at-there.ensures.step (c.loop-q.invariant.so_far v) (c.spread_if.ensures v);
      sizes = all_front HasDual c.in-Some.more.now c.in-Some.q.now (subst (AllByRecursion HasDual) last.0 c.loop-q.invariant.sizes);
      few = omega arith;
      near = c.step_at-there.ensures.near;
      cities = c.step_at-there.ensures.cities;
    }
