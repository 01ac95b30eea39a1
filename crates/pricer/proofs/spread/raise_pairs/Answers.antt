use Rattle.std.proofs.Common.{◌≡◌, ℕ, map, pos, ◌+ℤ◌, arith, List, ◌∷◌}
use Rattle.std.specs.Prelude.{ℤ}
use Rattle.std.proofs.lemmas.Int.{ints}
use Rattle.std.proofs.lemmas.List.{length-map}
use Rattle.tspdef.specs.Cuts.{pair_set}
use Rattle.pricer.specs.Prices.{at, laid, laid_one}
use Rattle.pricer.proofs.SpreadLemmas.{sets_number_size}
use Rattle.pricer.proofs.spread.raise_pairs.Goals as goal

pub raise_pair-requires-clause-numbers : goal.raise_pair-requires-clause-numbers
raise_pair-requires-clause-numbers c = λ v.
    let all = length-map c.args.pairs.now pair_set in
    let left = length-map c.loop-pair.rest.now pair_set in
    sets_number_size _ (at c.args.numbers.now v) c.args.dual c.args.holder (map pair_set c.args.pairs.now) (map pair_set c.loop-pair.rest.now) v
    (omega arith) (omega arith) c.requires.dual (c.requires.numbers v) (c.loop-pair.invariant.so_far v)

step : (x y t : ℤ) (dual : ℕ) (holder : _) (pair : ℕ × ℕ) (rest more : List (ℕ × ℕ)) (v : ℕ) → rest ≡ pair ∷ more → x +ℤ laid (pos dual) holder (map pair_set rest) v ≡ t
    → y ≡ x +ℤ laid_one (pos dual) holder (pair_set pair) v → y +ℤ laid (pos dual) holder (map pair_set more) v ≡ t
step x y t dual holder pair rest more v e so_far one = let before = rw e at so_far in omega (arith, ints)

pub loop-pair-preserved : goal.loop-pair-preserved
loop-pair-preserved c =
    let first = c.in-Some.ensures.cases in
    let sets = rw first.0 at c.loop-pair.invariant.sets in
    record {
      so_far = λ v. step _ _ _ c.args.dual c.args.holder c.in-Some.pair.now c.loop-pair.rest.now c.in-Some.more.now v first.0 (c.loop-pair.invariant.so_far v) (c.raise_pair.ensures v);
      sets = rw c.raise_pair.auto.numbers sets.1;
      few = omega arith;
    }
