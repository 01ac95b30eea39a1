use Rattle.std.proofs.Common.{◌∙◌, arith, length-set}
use Rattle.tournament.proofs.EntryLemmas.{entry_written, other_entry}
use Rattle.tournament.proofs.raise.Goals as goal

pub loop-here-preserved : goal.loop-here-preserved
loop-here-preserved c =
    let inv = c.loop-here.invariant in
    let more = c.loop-here-test.true in
    let long = inv.long in
    let inside = inv.inside in
    let first = rw c.deref.ensures.value at c.first_below-first.ensures in
    rw c.put.ensures (record {
      long = length-set _ _ _ ∙ inv.long;
      from = omega (arith, more);
      inside = omega (arith, inside);
      made = entry_written _ _ _ _ (omega (arith, more)) (omega (arith, long, inside)) first inv.made;
      places = λ i past. other_entry _ _ i _ (λ e. absurd (omega (arith, e, past, inside, more))) ∙ inv.places i past;
    })
