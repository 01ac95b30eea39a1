use Rattle.std.proofs.Common.{◌≡◌, ap, ◌∙◌, arith}
use Rattle.std.specs.Prelude.{slice_index, slice_index_or}
use Rattle.fracgraph.proofs.RootLemmas.{label_more, pushed_each}
use Rattle.fracgraph.proofs.labels.roots.Goals as goal

pub loop-parent-preserved : goal.loop-parent-preserved
loop-parent-preserved c =
    let ps = c.args.parents.now in
    let labels = c.loop-parent.labels.items in
    let i = c.loop-parent.parent-index in
    let old = c.loop-parent.invariant in
    let label = c.label_of-label.result in
    let is : label ≡ slice_index_or labels (slice_index ps i) (slice_index ps i) = c.label_of-label.ensures ∙ ap (λ ls. slice_index_or ls (slice_index ps i) (slice_index ps i)) c.deref.ensures.value in
    rw c.in_ok-push.ensures.items (record {
      long = let l = old.long in grind arith;
      each = pushed_each ps labels i label old.long old.each (label_more ps labels i label c.requires c.loop-parent-test.true old.long old.each is);
    })
