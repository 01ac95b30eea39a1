use Rattle.std.proofs.Common.{ap, ◌∙◌}
use Rattle.tspplain.proofs.CrossingLemmas.{found_more}
use Rattle.tspplain.proofs.separation.combs.Goals.{then-handle-ge3+then-is_least+in_ok-sets+then-is_missed_comb+in_ok-push, then-handle-ge3+then-is_least+in_ok-sets+else-is_missed_comb, else-handle-ge3}
use Rattle.tspplain.proofs.separation.combs.Goals as goal

pub loop-city-preserved : goal.loop-city-preserved
loop-city-preserved c =
    elim c.if-handle-ge3.branch [
      | then-handle-ge3+then-is_least+in_ok-sets+then-is_missed_comb+in_ok-push w ↦
          found_more c.args.x.now.entries c.loop-city.found.items c.if-handle-ge3.found.items w.in_ok-sets.sets w.deref.result.now
          c.loop-city.invariant (ap (λ v. v.items) w.found-is ∙ w.in_ok-push.ensures.items) w.deref.ensures.value (w.is_missed_comb.ensures.0 w.if-is_missed_comb.true)
      | then-handle-ge3+then-is_least+in_ok-sets+else-is_missed_comb w ↦ rw w.found-is c.loop-city.invariant
      | else-handle-ge3 w ↦ rw w.found-is c.loop-city.invariant
    ]
