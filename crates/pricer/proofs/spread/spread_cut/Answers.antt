use Rattle.std.proofs.Common.{◌≡◌, ℕ, length, map, pos, ◌+ℤ◌, arith, ap, ◌∙◌, List}
use Rattle.std.specs.Prelude.{ℤ}
use Rattle.std.proofs.lemmas.Int.{ints}
use Rattle.std.proofs.lemmas.List.{length-map}
use Rattle.tspdef.specs.Cuts.{pair_set}
use Rattle.cutform.specs.Cut.{cities_of_each, wide_sets}
use Rattle.cutform.proofs.PartLemmas.{wide_few, pairs_few}
use Rattle.pricer.specs.Prices.{at, laid}
use Rattle.pricer.proofs.SizeLemmas.{within_more}
use Rattle.pricer.proofs.SpreadLemmas.{cut_sets, cut_pairs, held_parts, between_size}
use Rattle.pricer.proofs.spread.spread_cut.Goals as goal

pub raise_each-requires-clause-sets : goal.raise_each-requires-clause-sets
raise_each-requires-clause-sets c = rw c.sets.ensures (cut_sets c.args.n (length c.args.numbers.now) c.args.cut.now c.requires.long c.requires.cut)

pub raise_each-requires-clause-few : goal.raise_each-requires-clause-few
raise_each-requires-clause-few c =
    let few = wide_few c.args.n c.args.cut.now c.requires.few c.requires.cut in
    let same : length (cities_of_each c.sets.result.now) ≡ length (wide_sets c.args.cut.now) = ap (length {A = List ℕ}) c.sets.ensures in
    let each = length-map c.sets.result.now (λ s. s.cities) in
    omega arith

pub raise_each-requires-clause-numbers : goal.raise_each-requires-clause-numbers
raise_each-requires-clause-numbers c = λ v. within_more _ _ _ (omega arith) (c.requires.numbers v)

pub raise_pairs-requires-clause-sets : goal.raise_pairs-requires-clause-sets
raise_pairs-requires-clause-sets c = rw (c.raise_each.auto.numbers, c.pairs.ensures) (cut_pairs c.args.n (length c.args.numbers.now) c.args.cut.now c.requires.long c.requires.cut)

pub raise_pairs-requires-clause-few : goal.raise_pairs-requires-clause-few
raise_pairs-requires-clause-few c =
    let few = pairs_few c.args.n c.args.cut.now c.requires.cut in
    let same = ap (length {A = ℕ × ℕ}) c.pairs.ensures in
    omega arith

wide : (x a : ℤ) (y : ℕ) (holder : _) (ss ts : List (List ℕ)) (v : ℕ) → ss ≡ ts → x ≡ a +ℤ laid (pos y) holder ss v → x ≡ a +ℤ laid (pos y) holder ts v
wide x a y holder ss ts v e is = is ∙ ap (λ (us : List (List ℕ)). a +ℤ laid (pos y) holder us v) e

pub raise_pairs-requires-clause-numbers : goal.raise_pairs-requires-clause-numbers
raise_pairs-requires-clause-numbers c = λ v.
    between_size c.args.n _ (at c.args.numbers.now v) c.args.dual c.args.holder c.args.cut.now v c.requires.few c.requires.cut c.requires.dual (c.requires.numbers v)
    (wide _ _ c.args.dual c.args.holder _ _ v c.sets.ensures (c.raise_each.ensures v))

pub returns : goal.returns
returns c = λ v.
    let sets = wide _ _ c.args.dual c.args.holder _ _ v c.sets.ensures (c.raise_each.ensures v) in
    let pairs = wide _ _ c.args.dual c.args.holder _ _ v (ap (map pair_set) c.pairs.ensures) (c.raise_pairs.ensures v) in
    let parts = held_parts c.args.cut.now c.args.dual c.args.holder v in
    omega (arith, ints)
