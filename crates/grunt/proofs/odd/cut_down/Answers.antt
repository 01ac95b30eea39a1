use Rattle.std.proofs.Common.{◌≡◌, List, sym, ap, ◌∙◌, subst}
use Rattle.cyc.specs.declared.frac.Entry.{Entry}
use Rattle.cyc.specs.Frac.{AreEntries}
use Rattle.grunt.specs.Odds.{lowered_entries}
use Rattle.grunt.proofs.OddLemmas.{lowered_are_entries}
use Rattle.grunt.proofs.odd.cut_down.Goals as goal

pub unreachable-requires : goal.unreachable-requires
unreachable-requires c =
    let x = c.args.x.now in
    let items = c.in_ok-entries.entries.items in
    let list : items ≡ lowered_entries x.entries = c.in_ok-entries.ensures ∙ ap lowered_entries c.entries.ensures.value in
    let are : AreEntries c.n-n.result items = subst (λ n. AreEntries n items) (sym c.n-n.ensures.value) (subst (λ (es : List Entry). AreEntries x.n es) (sym list) (lowered_are_entries x.n x.entries c.entries.ensures.entries)) in
    let e = c.in-Err-BadEntry.ensures.complete are in
    let f = c.in-Err-BadEntry.field-0-is in
    cc
