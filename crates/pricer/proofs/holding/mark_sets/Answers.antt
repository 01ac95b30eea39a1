use Rattle.std.proofs.Common.{◌∙◌, refl}
use Rattle.pricer.proofs.MarkLemmas.{marks_set, marks_then, sets_next}
use Rattle.pricer.proofs.holding.mark_sets.Goals as goal

pub loop-set-init : goal.loop-set-init
loop-set-init c = record { so_far = λ v e. (e, λ k. refl); sets = c.requires }

pub loop-set-preserved : goal.loop-set-preserved
loop-set-preserved c =
    let first = c.in-Some.ensures.cases in
    let sets = rw first.0 at c.loop-set.invariant.sets in
    record {
      so_far = marks_then _ _ _ _ _ _ c.loop-set.invariant.so_far (marks_set _ _ c.in-Some.set.now.cities c.mark_set.ensures)
          (λ v p h k. p k ∙ sets_next v k c.in-Some.set.now c.loop-set.rest.now c.in-Some.more.now first.0 h);
      sets = rw c.mark_set.auto.marks sets.1;
    }
