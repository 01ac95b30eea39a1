use Rattle.std.proofs.Common.{◌∙◌, refl}
use Rattle.tspdef.specs.Cuts.{pair_set}
use Rattle.pricer.proofs.MarkLemmas.{marks_set, marks_then, pairs_next}
use Rattle.pricer.proofs.holding.mark_pairs.Goals as goal

pub loop-pair-init : goal.loop-pair-init
loop-pair-init c = record { so_far = λ v e. (e, λ k. refl); sets = c.requires }

pub loop-pair-preserved : goal.loop-pair-preserved
loop-pair-preserved c =
    let first = c.in-Some.ensures.cases in
    let sets = rw first.0 at c.loop-pair.invariant.sets in
    record {
      so_far = marks_then _ _ _ _ _ _ c.loop-pair.invariant.so_far (marks_set _ _ (pair_set c.in-Some.pair.now) c.mark_pair.ensures)
          (λ v p h k. p k ∙ pairs_next v k c.in-Some.pair.now c.loop-pair.rest.now c.in-Some.more.now first.0 h);
      sets = rw c.mark_pair.auto.marks sets.1;
    }
