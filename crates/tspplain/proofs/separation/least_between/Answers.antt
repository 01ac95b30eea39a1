use Rattle.std.proofs.Common.{◌+◌, min, sym, ap, subst, ◌∙◌}
use Rattle.tspplain.specs.Crossings.{IsLeastCrossing, IsBetween}
use Rattle.tspplain.proofs.BitLemmas.{all_in, none_in, shares_every, shares_nothing}
use Rattle.tspplain.proofs.CrossingLemmas.{least_with, least_without}
use Rattle.tspplain.proofs.separation.least_between.Goals.{then-set-all+then-set-none-eq0, else-set-all, else-set-all-via-then-set-all+else-set-none-eq0, else-set-all-via-else-set-all}
use Rattle.tspplain.proofs.separation.least_between.Goals as goal

pub loop-set-preserved : goal.loop-set-preserved
loop-set-preserved c =
    let entries = c.args.x.now.entries in
    let set = c.loop-set.set in
    let kind = IsBetween c.args.all c.args.none in
    elim c.if-set-all.branch [
      | then-set-all+then-set-none-eq0 w ↦
          subst (IsLeastCrossing entries (set + 1) kind) (sym (w.least-is ∙ w.min-least.ensures ∙ ap (min c.loop-set.least) w.crossing.ensures.value))
          (least_with entries set kind c.loop-set.least c.loop-set.invariant (record { all_in = all_in set c.args.all w.if-set-all.true; none_in = none_in set c.args.none w.if-set-none-eq0.true }))
      | else-set-all w ↦
          subst (IsLeastCrossing entries (set + 1) kind) (sym w.least-is)
          (least_without entries set kind c.loop-set.least c.loop-set.invariant (λ is. elim w.else-set-all.branch [
            | else-set-all-via-then-set-all+else-set-none-eq0 v ↦ v.if-set-none-eq0.false (shares_nothing set c.args.none is.none_in)
            | else-set-all-via-else-set-all v ↦ v.if-set-all.false (shares_every set c.args.all is.all_in)
          ]))
    ]
