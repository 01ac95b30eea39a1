use Rattle.std.proofs.Common.{List, ℕ, subst}
use Rattle.ports.specs.Outside.{BothTell}
use Rattle.verification.specs.Transfers.{ReadsInstance, RefusesInstance}
use Rattle.verification.specs.Readings.{IsReadingOf}
use Rattle.verification.specs.declared.reading.Reading.{Reading}
use Rattle.verification.specs.Judging.{Judges}
use Rattle.verification.specs.Paths.{paths_in}
use Rattle.verification.proofs.Ends.{judged_ends, bad_ends}
use Rattle.verification.proofs.running.verify.Goals as goal

pub returns-in-Ok-Instance-clause-answers : goal.returns-in-Ok-Instance-clause-answers
returns-in-Ok-Instance-clause-answers g c =
    let paths = paths_in c.args.words.now in
    let i = c.in-Ok-Instance.instance in
    let a = g.D.Desk.told c.args.desk.now in
    let b = g.D.Desk.told c.read_instance.new.desk in
    let d = g.D.Desk.told c.judge.new.desk in
    let reads = subst (λ (w : List ℕ). BothTell (ReadsInstance w i) a b) c.deref.ensures
    (subst (λ (x : Reading). BothTell (IsReadingOf c.deref.result.now x) a b) c.in-Ok-Instance.field-0-is c.in-Ok-Instance.ensures.reading) in
    let judges = subst (λ (w : List ℕ). BothTell (Judges i w c.judge.result) b d) c.deref-in-Ok-Instance.ensures c.judge.ensures.desk in
    judged_ends paths i c.judge.result a b d reads judges

pub returns-in-Ok-Refused-clause-answers : goal.returns-in-Ok-Refused-clause-answers
returns-in-Ok-Refused-clause-answers g c =
    let paths = paths_in c.args.words.now in
    let r = c.in-Ok-Refused.refusal in
    let a = g.D.Desk.told c.args.desk.now in
    let b = g.D.Desk.told c.read_instance.new.desk in
    let refuses = subst (λ (w : List ℕ). BothTell (RefusesInstance w r) a b) c.deref.ensures
    (subst (λ (x : Reading). BothTell (IsReadingOf c.deref.result.now x) a b) c.in-Ok-Refused.field-0-is c.in-Ok-Refused.ensures.reading) in
    bad_ends paths r c.refuse.result a b (g.D.Desk.told c.refuse.new.desk) refuses
    c.refuse.ensures.status c.refuse.ensures.refused c.refuse.ensures.torn c.refuse.ensures.silent
