use Rattle.std.proofs.Common.{◌*◌, ◌≤◌, List, length, pos, ◌-ℤ◌, sym, ap, subst, ◌∙◌, arith}
use Rattle.std.proofs.lemmas.List.{take_all}
use Rattle.tspdef.specs.Cuts.{sets_of, right_side}
use Rattle.tspdef.specs.Bounds.{scale}
use Rattle.cyc.specs.declared.frac.Entry.{Entry}
use Rattle.cyc.specs.Frac.{AreEntries}
use Rattle.sepblos.proofs.WeightLemmas.{weight_of, violation_by_entries, times_most, weight_fits, entry_small}
use Rattle.sepblos.proofs.violated.weight.Goals as goal

pub overflow_add-weight : goal.overflow_add-weight
overflow_add-weight c =
    let x = c.args.x.now in
    let es = c.entries-entry-items.result.now in
    let few = c.n-n.ensures.few in
    let n = c.n-n.ensures.value in
    let are = c.entries-entry-items.ensures in
    let small = entry_small x.n es c.loop-entry.entry-index (record { u = 0; v = 0; x = 0 }) (subst (AreEntries x.n) (sym are.value) are.entries) c.loop-entry-test.true in
    let sum = weight_fits x.n x.entries c.loop-entry.entry-index c.args.cut.now (omega arith) are.entries c.requires.cut in
    let coef = c.crossed.ensures.few in
    let one = times_most c.from.result c.from-in-loop-entry.result 1073741824 (omega (arith, small, c.from.ensures)) (omega (arith, coef, c.from-in-loop-entry.ensures)) in
    omega (arith, sum, one, c.loop-entry.invariant)

pub returns-clause-small : goal.returns-clause-small
returns-clause-small c =
    let x = c.args.x.now in
    let few = c.n-n.ensures.few in
    let n = c.n-n.ensures.value in
    let sum = weight_fits x.n x.entries c.loop-entry.entry-index c.args.cut.now (omega arith) c.entries-entry-items.ensures.entries c.requires.cut in
    omega (arith, sum, c.loop-entry.invariant)

pub returns-clause-missed : goal.returns-clause-missed
returns-clause-missed c =
    let x = c.args.x.now in
    let cut = c.args.cut.now in
    let are = c.entries-entry-items.ensures in
    let past = subst (λ (es : List Entry). length es ≤ c.loop-entry.entry-index) are.value c.loop-entry-test.false in
    violation_by_entries x cut are.entries
    ∙ ap (λ k. pos (scale * right_side cut) -ℤ pos k) (sym (c.loop-entry.invariant ∙ ap (λ (es : List Entry). weight_of es (sets_of cut)) (take_all c.loop-entry.entry-index x.entries past)))
