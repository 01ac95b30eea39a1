use Rattle.std.proofs.Common.{◌≤◌, List, length, subst}
use Rattle.cyc.specs.declared.frac.Entry.{Entry}
use Rattle.cutform.specs.Cut.{cities_of_each}
use Rattle.sepblos.proofs.ToothLemmas.{teeth_done}
use Rattle.sepblos.proofs.teeth.teeth_of.Goals as goal

pub returns-clause-teeth : goal.returns-clause-teeth
returns-clause-teeth c =
    let x = c.args.x.now in
    let read = c.entries-entry-items.ensures in
    let past = subst (λ (es : List Entry). length es ≤ c.loop-entry.entry-index) read.value c.loop-entry-test.false in
    teeth_done x.n x.entries c.args.handle.now.cities (cities_of_each c.loop-entry.teeth.items) c.loop-entry.entry-index c.loop-entry.invariant past read.entries.each
