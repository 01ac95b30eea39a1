use Rattle.std.proofs.Common.{◌≡◌, ℕ, length, pos, ◌+ℤ◌, arith, List, ◌∷◌}
use Rattle.std.specs.Prelude.{ℤ}
use Rattle.std.proofs.lemmas.Int.{ints}
use Rattle.std.proofs.lemmas.List.{length-map}
use Rattle.cyc.specs.CitySet.{Members}
use Rattle.cutform.specs.Cut.{cities_of_each}
use Rattle.pricer.specs.Prices.{at, laid, laid_one}
use Rattle.pricer.proofs.WeightLemmas.{sets_light}
use Rattle.pricer.proofs.light.raise_each.Goals as goal

each_length : (sets : List Members) → length (cities_of_each sets) ≡ length sets
each_length sets = length-map sets (λ s. s.cities)

pub raise-requires-clause-numbers : goal.raise-requires-clause-numbers
raise-requires-clause-numbers c = λ v.
    let all = each_length c.args.sets.now in
    let left = each_length c.loop-set.rest.now in
    sets_light _ (at c.args.numbers.now v) c.args.dual c.args.holder (cities_of_each c.args.sets.now) (cities_of_each c.loop-set.rest.now) v
    (rw all c.requires.light) (omega arith) (c.requires.numbers v) (c.loop-set.invariant.so_far v)

step : (x y t : ℤ) (dual : ℕ) (holder : _) (set : Members) (rest more : List Members) (v : ℕ) → rest ≡ set ∷ more → x +ℤ laid (pos dual) holder (cities_of_each rest) v ≡ t
    → y ≡ x +ℤ laid_one (pos dual) holder set.cities v → y +ℤ laid (pos dual) holder (cities_of_each more) v ≡ t
step x y t dual holder set rest more v e so_far one = let before = rw e at so_far in omega (arith, ints)

pub loop-set-preserved : goal.loop-set-preserved
loop-set-preserved c =
    let first = c.in-Some.ensures.cases in
    let sets = rw first.0 at c.loop-set.invariant.sets in
    record {
      so_far = λ v. step _ _ _ c.args.dual c.args.holder c.in-Some.set.now c.loop-set.rest.now c.in-Some.more.now v first.0 (c.loop-set.invariant.so_far v) (c.raise.ensures v);
      sets = rw c.raise.auto.numbers sets.1;
      few = omega arith;
    }
