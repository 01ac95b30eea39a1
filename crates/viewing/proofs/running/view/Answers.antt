use Rattle.std.proofs.Common.{sym, subst}
use Rattle.ports.specs.Outside.{BothTell}
use Rattle.viewing.specs.Readings.{IsReadingOf}
use Rattle.viewing.specs.declared.reading.Reading.{Reading}
use Rattle.viewing.specs.declared.statuses.ViewStatus.{ViewStatus}
use Rattle.viewing.specs.Words.{paths_in}
use Rattle.viewing.specs.Runs.{Ends}
use Rattle.viewing.proofs.Ends.{shown_ends, bad_ends}
use Rattle.viewing.proofs.running.view.Goals as goal

pub returns-in-Ok-Mapped-clause-answers : goal.returns-in-Ok-Mapped-clause-answers
returns-in-Ok-Mapped-clause-answers g c =
    let a = g.D.Desk.told c.args.desk.now in
    let b = g.D.Desk.told c.read_mapped.new.desk in
    let reads = subst (λ (x : Reading). BothTell (IsReadingOf c.args.paths.instance.now x) a b) c.in-Ok-Mapped.field-0-is c.in-Ok-Mapped.ensures.reading in
    shown_ends (paths_in c.args.paths) c.in-Ok-Mapped.mapped.instance c.show.result a b (g.D.Desk.told c.show.new.desk) reads c.show.ensures.desk

pub returns-in-Ok-Refused-clause-answers : goal.returns-in-Ok-Refused-clause-answers
returns-in-Ok-Refused-clause-answers g c =
    let paths = paths_in c.args.paths in
    let a = g.D.Desk.told c.args.desk.now in
    let b = g.D.Desk.told c.read_mapped.new.desk in
    let d = g.D.Desk.told c.refuse.new.desk in
    let refuses = subst (λ (x : Reading). BothTell (IsReadingOf c.args.paths.instance.now x) a b) c.in-Ok-Refused.field-0-is c.in-Ok-Refused.ensures.reading in
    subst (λ (s : ViewStatus). BothTell (Ends paths s) a d) (sym c.status_of.ensures)
    (bad_ends paths c.in-Ok-Refused.refusal c.refuse.result a b d refuses c.refuse.ensures.status c.refuse.ensures.refused c.refuse.ensures.torn c.refuse.ensures.silent)
