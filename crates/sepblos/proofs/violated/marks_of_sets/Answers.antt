use Rattle.std.proofs.Common.{◌≡◌, ◌||◌, false, length, slice_index_or, sym, ap, ◌∙◌, arith}
use Rattle.std.proofs.lemmas.List.{with_items_is}
use Rattle.tspdef.specs.Sets.{has}
use Rattle.sepblos.proofs.MarkLemmas.{any_more}
use Rattle.sepblos.proofs.violated.marks_of_sets.Goals as goal

pub loop-set-preserved : goal.loop-set-preserved
loop-set-preserved c =
    let old = c.loop-set.marks.items in
    let new = c.mark.new.marks in
    let set = c.set-item.result in
    let inv = c.loop-set.invariant in
    let same = c.deref_mut.ensures.value in
    let long : length new ≡ length c.deref_mut.result.now = c.mark.ensures.long in
    let many : length new ≡ c.args.n = long ∙ (ap length same ∙ inv.long) in
    let items = with_items_is c.loop-set.marks new (omega (arith, long, c.loop-set.marks.ok.0, ap length same)) in
    rw items (record {
      long = many;
      marked = λ k h.
          let more : slice_index_or new k false ≡ (slice_index_or old k false || has set.cities k) = rw (same, c.cities.ensures.value) at (c.mark.ensures.marked k (omega (arith, h, long, many))) in
          more ∙ (ap (λ b. b || has set.cities k) (inv.marked k h) ∙ sym (any_more c.args.sets.now c.loop-set.set-index set k c.loop-set-test.true c.set-item.is));
    })
