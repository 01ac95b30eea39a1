use Rattle.std.proofs.Common.{length, sym, ◌∙◌, subst}
use Rattle.cyc.specs.CitySet.{Members}
use Rattle.tspdef.specs.Sets.{IsSet}
use Rattle.cutform.proofs.SetLemmas.{marked-next, apart-next, next-meets_one, rises-all}
use Rattle.cutform.proofs.comb.meets_marked.Goals as goal

pub returns-then-is_any_marked : goal.returns-then-is_any_marked
returns-then-is_any_marked c =
    let found = rw c.cities-cities.ensures.value at c.is_any_marked.ensures in
    sym (next-meets_one c.loop-tooth.marks c.args.teeth.now c.loop-tooth.tooth-index c.tooth-item.result c.loop-tooth-test.true c.tooth-item.is c.loop-tooth.invariant.marked (sym found ∙ c.if-is_any_marked.true))

pub mark-requires : goal.mark-requires
mark-requires c =
    let set = subst (λ (t : Members). IsSet (length c.args.marks.now) t.cities) (sym c.tooth-item.is) (c.requires.sets c.loop-tooth.tooth-index c.tooth-item.result c.loop-tooth-test.true) in
    rw c.cities-cities.ensures.value (rw c.loop-tooth.auto.marks (rises-all (length c.args.marks.now) c.tooth-item.result.cities set))

pub loop-tooth-preserved : goal.loop-tooth-preserved
loop-tooth-preserved c =
    let found = rw c.cities-cities.ensures.value at c.is_any_marked.ensures in
    let marked = rw c.cities-cities.ensures.value at c.mark.ensures in
    record {
      marked = λ k. marked-next c.loop-tooth.marks c.args.teeth.now c.loop-tooth.tooth-index c.tooth-item.result c.loop-tooth-test.true c.tooth-item.is c.loop-tooth.invariant.marked c.mark.new.marks k (marked k);
      apart = apart-next c.loop-tooth.marks c.args.teeth.now c.loop-tooth.tooth-index c.tooth-item.result c.loop-tooth-test.true c.tooth-item.is c.loop-tooth.invariant.marked c.loop-tooth.invariant.apart (sym found ∙ c.if-is_any_marked.false);
    }
