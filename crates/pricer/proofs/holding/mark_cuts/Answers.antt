use Rattle.std.proofs.Common.{◌∙◌, refl, arith}
use Rattle.pricer.proofs.MarkLemmas.{marks_then, cuts_next}
use Rattle.pricer.proofs.holding.mark_cuts.Goals as goal

pub loop-q-init : goal.loop-q-init
loop-q-init c = record { so_far = λ v e. (e, λ k. refl); cuts = c.requires.cuts; long = c.requires.long }

pub loop-q-preserved : goal.loop-q-preserved
loop-q-preserved c =
    let first = c.in-Some.ensures.cases in
    let cuts = rw first.0 at c.loop-q.invariant.cuts in
    record {
      so_far = marks_then _ _ _ _ _ _ c.loop-q.invariant.so_far c.mark_cut.ensures
          (λ v p h k. p k ∙ cuts_next v k c.in-Some.q.now c.loop-q.rest.now c.in-Some.more.now first.0 (h k c.in-Some.q.now.1));
      cuts = cuts.1;
      long = (let kept = c.mark_cut.auto.marks in let long = c.loop-q.invariant.long in omega arith);
    }
