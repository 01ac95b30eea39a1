use Rattle.std.proofs.Common.{◌≤◌, List, length, sym, ap, subst, ◌∙◌, arith, pos}
use Rattle.std.proofs.lemmas.List.{take_all}
use Rattle.tspdef.specs.Sets.{has}
use Rattle.cyc.specs.declared.frac.Entry.{Entry}
use Rattle.cyc.specs.Frac.{AreEntries}
use Rattle.maxflow.specs.Crossings.{crossing}
use Rattle.maxflow.proofs.CrossingLemmas.{weight_by_entries}
use Rattle.branchx.proofs.FitLemmas.{crossing_fits, entry_small}
use Rattle.branchx.proofs.fit.crossing.Goals as goal

pub overflow_add-weight : goal.overflow_add-weight
overflow_add-weight c =
    let x = c.args.x.now in
    let es = c.entries-entry-items.result.now in
    let few = c.n-n.ensures.few in
    let n = c.n-n.ensures.value in
    let are = c.entries-entry-items.ensures in
    let small = entry_small x.n es c.loop-entry.entry-index (record { u = 0; v = 0; x = 0 }) (subst (AreEntries x.n) (sym are.value) are.entries) c.loop-entry-test.true in
    let sum = crossing_fits x.n x.entries c.loop-entry.entry-index (has c.args.set.now.cities) (omega arith) are.entries in
    omega (arith, small, sum, c.loop-entry.invariant, c.from-weight.ensures)

pub returns : goal.returns
returns c =
    let x = c.args.x.now in
    let p = has c.args.set.now.cities in
    let are = c.entries-entry-items.ensures in
    let past = subst (λ (es : List Entry). length es ≤ c.loop-entry.entry-index) are.value c.loop-entry-test.false in
    weight_by_entries x p are.entries ∙ ap pos (sym (c.loop-entry.invariant ∙ ap (λ (es : List Entry). crossing es p) (take_all c.loop-entry.entry-index x.entries past)))
