use Rattle.std.proofs.Common.{List, ℕ, refl, subst, ◌∙◌, inl, inr}
use Rattle.ports.specs.Outside.{BothTell}
use Rattle.verification.specs.Transfers.{ReadsInstance, RefusesInstance, TouchesInstance}
use Rattle.verification.specs.Readings.{IsReadingOf}
use Rattle.verification.specs.declared.reading.Reading.{Reading}
use Rattle.tspengine.specs.Calls.{on_desk}
use Rattle.tspengine.specs.Bounding.{IsRaisedBy}
use Rattle.tspengine.proofs.InstanceReads.{read_touches, refused_ends}
use Rattle.tspengine.proofs.Bounds.{refused_bound}
use Rattle.tspengine.proofs.bounding.bound.Goals as goal

pub returns-in-Ok-clause-ends : goal.returns-in-Ok-clause-ends
returns-in-Ok-clause-ends g c = λ call says kept.
    let i = c.in-Ok-Instance.instance in
    let a = g.D.Desk.told c.args.desk.now in
    let b = g.D.Desk.told c.read_instance.new.desk in
    let reads = subst (λ (w : List ℕ). BothTell (ReadsInstance w i) a b) (c.deref.ensures ∙ says.instance)
    (subst (λ (x : Reading). BothTell (IsReadingOf c.deref.result.now x) a b) c.in-Ok-Instance.field-0-is c.in-Ok-Instance.ensures.reading) in
    let is = subst (λ (k : ℕ). IsRaisedBy i k c.in-Ok.raised) says.steps c.in-Ok.ensures.raised in
    c.certify.ensures.ends (on_desk a b call) is (c.deref-in-Ok.ensures ∙ says.cert) kept reads

pub returns-in-Ok-Instance-clause-ends : goal.returns-in-Ok-Instance-clause-ends
returns-in-Ok-Instance-clause-ends g c = λ call says kept.
    let i = c.in-Ok-Instance.instance in
    let a = g.D.Desk.told c.args.desk.now in
    let b = g.D.Desk.told c.read_instance.new.desk in
    let reads = subst (λ (w : List ℕ). BothTell (ReadsInstance w i) a b) (c.deref.ensures ∙ says.instance)
    (subst (λ (x : Reading). BothTell (IsReadingOf c.deref.result.now x) a b) c.in-Ok-Instance.field-0-is c.in-Ok-Instance.ensures.reading) in
    inr (inr (inr (inr (refl, inl (record { desk = read_touches _ i a b reads; slots = kept })))))

pub returns-in-Ok-Refused-clause-ends : goal.returns-in-Ok-Refused-clause-ends
returns-in-Ok-Refused-clause-ends g c = λ call says kept.
    let r = c.in-Ok-Refused.refusal in
    let a = g.D.Desk.told c.args.desk.now in
    let b = g.D.Desk.told c.read_instance.new.desk in
    let d = g.D.Desk.told c.refuse.new.desk in
    let refuses = subst (λ (w : List ℕ). BothTell (RefusesInstance w r) a b) (c.deref.ensures ∙ says.instance)
    (subst (λ (x : Reading). BothTell (IsReadingOf c.deref.result.now x) a b) c.in-Ok-Refused.field-0-is c.in-Ok-Refused.ensures.reading) in
    refused_bound c.refuse.result (on_desk a d call) (refused_ends c.refuse.result (on_desk a d call) r b kept refuses
    c.refuse.ensures.status c.refuse.ensures.refused c.refuse.ensures.torn c.refuse.ensures.silent)

pub returns-in-Err-Failed-clause-ends : goal.returns-in-Err-Failed-clause-ends
returns-in-Err-Failed-clause-ends g c = λ call says kept.
    let a = g.D.Desk.told c.args.desk.now in
    let b = g.D.Desk.told c.read_instance.new.desk in
    let touches = subst (λ (w : List ℕ). BothTell (TouchesInstance w) a b) (c.deref.ensures ∙ says.instance) c.in-Err-Failed.ensures.unread in
    inr (inr (inl (refl, record { desk = touches; slots = kept })))
