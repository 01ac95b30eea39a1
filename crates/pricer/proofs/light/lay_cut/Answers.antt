use Rattle.std.proofs.Common.{◌≡◌, ℕ, length, map, pos, ◌+ℤ◌, arith, ap, ◌∙◌, List}
use Rattle.std.specs.Prelude.{ℤ}
use Rattle.std.proofs.lemmas.Int.{ints}
use Rattle.tspdef.specs.Cuts.{pair_set, sets_of}
use Rattle.cutform.specs.Cut.{wide_sets}
use Rattle.pricer.specs.Prices.{at, laid}
use Rattle.pricer.proofs.SizeLemmas.{within_more}
use Rattle.pricer.proofs.SpreadLemmas.{cut_sets, cut_pairs, held_parts}
use Rattle.pricer.proofs.WeightLemmas.{part_light, dual_light, between_light, sets_counted, kept_counted}
use Rattle.pricer.proofs.light.lay_cut.Goals as goal

pub raise_each-requires-clause-sets : goal.raise_each-requires-clause-sets
raise_each-requires-clause-sets c = rw c.sets.ensures (cut_sets c.args.n (length c.args.numbers.now) c.args.cut.now c.requires.long c.requires.cut)

pub raise_each-requires-clause-numbers : goal.raise_each-requires-clause-numbers
raise_each-requires-clause-numbers c = λ v. within_more _ _ _ (omega arith) (c.requires.numbers v)

pub raise_each-requires-clause-dual : goal.raise_each-requires-clause-dual
raise_each-requires-clause-dual c = dual_light c.args.dual (length (sets_of c.args.cut.now)) c.requires.light

pub raise_each-requires-clause-light : goal.raise_each-requires-clause-light
raise_each-requires-clause-light c =
    let all = sets_counted c.args.cut.now in
    let kept = kept_counted c.args.cut.now c.sets.result.now c.sets.ensures in
    part_light c.args.dual (length c.sets.result.now) (length (sets_of c.args.cut.now)) (omega arith) c.requires.light

pub raise_pairs-requires-clause-sets : goal.raise_pairs-requires-clause-sets
raise_pairs-requires-clause-sets c = rw (c.raise_each.auto.numbers, c.pairs.ensures) (cut_pairs c.args.n (length c.args.numbers.now) c.args.cut.now c.requires.long c.requires.cut)

pub raise_pairs-requires-clause-dual : goal.raise_pairs-requires-clause-dual
raise_pairs-requires-clause-dual c = dual_light c.args.dual (length (sets_of c.args.cut.now)) c.requires.light

pub raise_pairs-requires-clause-light : goal.raise_pairs-requires-clause-light
raise_pairs-requires-clause-light c =
    let all = sets_counted c.args.cut.now in
    let same = ap (length {A = ℕ × ℕ}) c.pairs.ensures in
    part_light c.args.dual (length c.pairs.result.now) (length (sets_of c.args.cut.now)) (omega arith) c.requires.light

wide : (x a : ℤ) (y : ℕ) (holder : _) (ss ts : List (List ℕ)) (v : ℕ) → ss ≡ ts → x ≡ a +ℤ laid (pos y) holder ss v → x ≡ a +ℤ laid (pos y) holder ts v
wide x a y holder ss ts v e is = is ∙ ap (λ (us : List (List ℕ)). a +ℤ laid (pos y) holder us v) e

pub raise_pairs-requires-clause-numbers : goal.raise_pairs-requires-clause-numbers
raise_pairs-requires-clause-numbers c = λ v.
    let all = sets_counted c.args.cut.now in
    between_light _ (at c.args.numbers.now v) c.args.dual c.args.holder (wide_sets c.args.cut.now) v
    (part_light c.args.dual (length (wide_sets c.args.cut.now)) (length (sets_of c.args.cut.now)) (omega arith) c.requires.light) (c.requires.numbers v)
    (wide _ _ c.args.dual c.args.holder _ _ v c.sets.ensures (c.raise_each.ensures v))

pub returns : goal.returns
returns c = λ v.
    let sets = wide _ _ c.args.dual c.args.holder _ _ v c.sets.ensures (c.raise_each.ensures v) in
    let pairs = wide _ _ c.args.dual c.args.holder _ _ v (ap (map pair_set) c.pairs.ensures) (c.raise_pairs.ensures v) in
    let parts = held_parts c.args.cut.now c.args.dual c.args.holder v in
    omega (arith, ints)
