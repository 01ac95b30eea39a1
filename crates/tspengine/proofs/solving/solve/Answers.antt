use Rattle.std.proofs.Common.{List, ℕ, refl, subst, ◌∙◌}
use Rattle.ports.specs.Outside.{BothTell}
use Rattle.verification.specs.declared.reading.Reading.{Reading}
use Rattle.verification.specs.Transfers.{ReadsInstance, RefusesInstance, TouchesInstance}
use Rattle.verification.specs.Readings.{IsReadingOf}
use Rattle.tspengine.specs.Calls.{on_desk, on_slots}
use Rattle.tspengine.proofs.InstanceReads.{refused_ends}
use Rattle.tspengine.proofs.Solves.{refused_solve, silent_short, as_unread}
use Rattle.tspengine.specs.declared.statuses.Status.TheVariants as status
use Rattle.tspengine.proofs.solving.solve.Goals as goal

pub returns-in-Ok-Instance-clause-ends : goal.returns-in-Ok-Instance-clause-ends
returns-in-Ok-Instance-clause-ends g c = λ call says.
    let i = c.in-Ok-Instance.instance in
    let a = g.D.Desk.told c.args.desk.now in
    let b = g.D.Desk.told c.read_instance.new.desk in
    let s = g.L.Slots.told c.args.slots.now in
    let p = g.L.Slots.past c.args.slots.now in
    let reads = subst (λ (w : List ℕ). BothTell (ReadsInstance w i) a b) (c.deref.ensures ∙ says.instance)
    (subst (λ (x : Reading). BothTell (IsReadingOf c.deref.result.now x) a b) c.in-Ok-Instance.field-0-is c.in-Ok-Instance.ensures.reading) in
    c.solve_instance.ensures.ends (on_slots s p s p (on_desk a b call)) says reads refl refl

pub returns-in-Ok-Refused-clause-ends : goal.returns-in-Ok-Refused-clause-ends
returns-in-Ok-Refused-clause-ends g c = λ call says.
    let r = c.in-Ok-Refused.refusal in
    let a = g.D.Desk.told c.args.desk.now in
    let b = g.D.Desk.told c.read_instance.new.desk in
    let d = g.D.Desk.told c.refuse.new.desk in
    let s = g.L.Slots.told c.args.slots.now in
    let p = g.L.Slots.past c.args.slots.now in
    let here = on_slots s p s p (on_desk a d call) in
    let refuses = subst (λ (w : List ℕ). BothTell (RefusesInstance w r) a b) (c.deref.ensures ∙ says.instance)
    (subst (λ (x : Reading). BothTell (IsReadingOf c.deref.result.now x) a b) c.in-Ok-Refused.field-0-is c.in-Ok-Refused.ensures.reading) in
    refused_solve c.refuse.result here refl (refused_ends c.refuse.result here r b refl refuses
    c.refuse.ensures.status c.refuse.ensures.refused c.refuse.ensures.torn c.refuse.ensures.silent)

pub returns-in-Err-Failed-clause-ends : goal.returns-in-Err-Failed-clause-ends
returns-in-Err-Failed-clause-ends g c = λ call says.
    let a = g.D.Desk.told c.args.desk.now in
    let b = g.D.Desk.told c.read_instance.new.desk in
    let s = g.L.Slots.told c.args.slots.now in
    let p = g.L.Slots.past c.args.slots.now in
    let touches = subst (λ (w : List ℕ). BothTell (TouchesInstance w) a b) (c.deref.ensures ∙ says.instance) c.in-Err-Failed.ensures.unread in
    as_unread status.ReadFault (on_slots s p s p (on_desk a b call)) refl (record { desk = touches; slots = refl {a = s} })

pub returns-in-Err-NoMemory-clause-ends : goal.returns-in-Err-NoMemory-clause-ends
returns-in-Err-NoMemory-clause-ends g c = λ call says.
    let a = g.D.Desk.told c.args.desk.now in
    let b = g.D.Desk.told c.read_instance.new.desk in
    let s = g.L.Slots.told c.args.slots.now in
    let p = g.L.Slots.past c.args.slots.now in
    let touches = subst (λ (w : List ℕ). BothTell (TouchesInstance w) a b) (c.deref.ensures ∙ says.instance) c.in-Err-NoMemory.ensures.unread in
    silent_short (on_slots s p s p (on_desk a b call)) touches refl refl
