use Rattle.std.proofs.Common.{ℕ, ◌<◌, length, get_or, refl, sym, ◌∙◌, subst, arith, below_more}
use Rattle.std.proofs.lemmas.List.{get_or_read}
use Rattle.std.proofs.lemmas.Bool.{false≢true}
use Rattle.cyc.specs.CitySet.{Members}
use Rattle.tspdef.specs.Sets.{IsSet}
use Rattle.cutform.proofs.SetLemmas.{below-rises, rises-below, each-from_all, all_from-each}
use Rattle.cutform.proofs.comb.are_sets.Goals as goal

pub returns-then-not-are_below : goal.returns-then-not-are_below
returns-then-not-are_below c =
    let found = rw c.cities.ensures.value at c.are_below.ensures in
    let set = λ (all : (k : ℕ) (d : Members) → k < length c.args.teeth.now → IsSet c.args.n (get_or c.args.teeth.now k d).cities).
    subst (λ (t : Members). IsSet c.args.n t.cities) (sym c.tooth-item.is) (all c.loop-tooth.tooth-index c.tooth-item.result c.loop-tooth-test.true) in
    (λ e. absurd (false≢true e), λ each. sym c.if-not-are_below.true ∙ (found ∙ rises-below c.args.n 0 c.tooth-item.result.cities (set (all_from-each (IsSet c.args.n) c.args.teeth.now each))))

pub loop-tooth-preserved : goal.loop-tooth-preserved
loop-tooth-preserved c = λ k d.
    let found = rw c.cities.ensures.value at c.are_below.ensures in
    let here = below-rises c.args.n c.tooth-item.result.n 0 c.tooth-item.result.cities c.cities.ensures.set (sym found ∙ c.if-not-are_below.false) in
    let read = get_or_read c.args.teeth.now c.loop-tooth.tooth-index c.tooth-item.result c.loop-tooth-test.true c.tooth-item.is d in
    below_more (λ j. IsSet c.args.n (get_or c.args.teeth.now j d).cities) c.loop-tooth.tooth-index (λ j h. c.loop-tooth.invariant j d h) (subst (λ (t : Members). IsSet c.args.n t.cities) read here) k

pub returns : goal.returns
returns c =
    (λ e. each-from_all (IsSet c.args.n) c.args.teeth.now (λ k d h. c.loop-tooth.invariant k d (omega arith)), λ each. refl)
