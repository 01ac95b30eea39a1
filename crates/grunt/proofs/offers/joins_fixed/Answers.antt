use Rattle.tspdef.specs.Tours.{steps}
use Rattle.linkern.proofs.RestLemmas.{joined_ahead, joined_behind, reaches_more}
use Rattle.grunt.proofs.offers.joins_fixed.Goals as goal
use Rattle.grunt.proofs.offers.joins_fixed.Goals.{else-next-pair-via-then-next-pair+else-prev-pair, else-next-pair-via-else-next-pair}

pub loop-pair-preserved : goal.loop-pair-preserved
loop-pair-preserved c =
    let tour = c.args.tour.now in
    reaches_more (steps tour) c.fixed-pair-items.result.now c.loop-pair.pair-index _ c.loop-pair-test.true
    (elim c.else-next-pair.branch [
      | else-next-pair-via-then-next-pair+else-prev-pair w ↦ joined_behind tour _ _ _ w.prev.ensures.follows w.if-prev-pair.false
      | else-next-pair-via-else-next-pair w ↦ joined_ahead tour _ _ _ c.next.ensures.follows w.if-next-pair.false
    ])
    c.loop-pair.invariant
