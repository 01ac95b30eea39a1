use Rattle.std.proofs.Common.{ap, ◌∙◌}
use Rattle.tspplain.proofs.CrossingLemmas.{found_more}
use Rattle.tspplain.proofs.separation.blossoms.Goals.{then-handle-bit+then-is_least+in_ok-sets+in-Some+then-is_missed_comb+in_ok-push, then-handle-bit+then-is_least+in_ok-sets+in-Some+else-is_missed_comb, then-handle-bit+then-is_least+in_ok-sets+in_default, else-handle-bit}
use Rattle.tspplain.proofs.separation.blossoms.Goals as goal

pub loop-city-preserved : goal.loop-city-preserved
loop-city-preserved c =
    elim c.if-handle-bit.branch [
      | then-handle-bit+then-is_least+in_ok-sets+in-Some+then-is_missed_comb+in_ok-push w ↦
          found_more c.args.x.now.entries c.loop-city.found.items c.if-handle-bit.found.items w.in-Some.sets w.deref.result.now
          c.loop-city.invariant (ap (λ v. v.items) w.found-is ∙ w.in_ok-push.ensures.items) w.deref.ensures.value (w.is_missed_comb.ensures.0 w.if-is_missed_comb.true)
      | then-handle-bit+then-is_least+in_ok-sets+in-Some+else-is_missed_comb w ↦ rw w.found-is c.loop-city.invariant
      | then-handle-bit+then-is_least+in_ok-sets+in_default w ↦ rw w.found-is c.loop-city.invariant
      | else-handle-bit w ↦ rw w.found-is c.loop-city.invariant
    ]
