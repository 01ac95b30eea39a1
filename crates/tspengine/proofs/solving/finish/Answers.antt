use Rattle.std.proofs.Common.{List, ℕ, sym, subst, ◌∙◌}
use Rattle.verification.proofs.Tells.{on_err, on_ok}
use Rattle.tspengine.specs.Calls.{ending_with}
use Rattle.tspengine.specs.Outcomes.{IsOutcome, IsBodyOf}
use Rattle.tspengine.proofs.Solves.{proof_published, body_saved, body_torn}
use Rattle.tspengine.proofs.Joining.{begins_end, searched_end, unsaved_end, saved_end}
use Rattle.tspengine.proofs.solving.finish.Goals as goal

pub returns-in-Closed-clause-ends : goal.returns-in-Closed-clause-ends
returns-in-Closed-clause-ends g c = λ call i s says is read searched begins.
    let w = c.args.words.now in
    let a = g.D.Desk.told c.args.desk.now in
    let d = g.D.Desk.told c.publish_proof.new.desk in
    let m = g.L.Slots.told c.args.slots.now in
    let mid = g.L.Slots.past c.args.slots.now in
    proof_published (ending_with d m mid call) w i s c.in-Closed.closed a c.publish_proof.result says (subst (IsOutcome i w.budget w.gap s) c.in-Closed.is is) read
    (begins_end call d m mid i s begins) (searched_end call d m mid i s m mid searched) c.publish_proof.ensures.ends

pub returns-then-is_err-clause-ends : goal.returns-then-is_err-clause-ends
returns-then-is_err-clause-ends g c = λ call i s says is read searched begins.
    let w = c.args.words.now in
    let a = g.D.Desk.told c.args.desk.now in
    let m = g.L.Slots.told c.args.slots.now in
    let mid = g.L.Slots.past c.args.slots.now in
    let u = g.L.Slots.told c.save.new.slots in
    let later = g.L.Slots.past c.save.new.slots in
    let was : IsBodyOf i w.budget w.gap s c.in-Stopped.body.items c.in-Stopped.printed.items = subst (IsOutcome i w.budget w.gap s) c.in-Stopped.is is in
    let now = subst (λ (x : List ℕ). IsBodyOf i w.budget w.gap s x c.in-Stopped.printed.items) (sym c.deref.ensures.value) was in
    unsaved_end (ending_with a u later call) w i s c.deref.result.now c.in-Stopped.printed.items mid m says now read
    (begins_end call a u later i s begins) (searched_end call a u later i s m mid searched)
    (on_err c.save.result (sym c.is_err.ensures.value ∙ c.if-is_err.true) c.save.ensures.failed) c.save.ensures.crash

pub returns-in-Ok-clause-ends : goal.returns-in-Ok-clause-ends
returns-in-Ok-clause-ends g c = λ call i s says is read searched begins.
    let w = c.args.words.now in
    let a = g.D.Desk.told c.args.desk.now in
    let d = g.D.Desk.told c.write_all.new.desk in
    let m = g.L.Slots.told c.args.slots.now in
    let mid = g.L.Slots.past c.args.slots.now in
    let u = g.L.Slots.told c.save.new.slots in
    let later = g.L.Slots.past c.save.new.slots in
    let body = c.deref.result.now in
    let printed = c.deref-in-Stopped.result.now in
    let went_well = sym c.is_err.ensures.value ∙ c.if-is_err.false in
    let end = ending_with d u later call in
    let was : IsBodyOf i w.budget w.gap s c.in-Stopped.body.items c.in-Stopped.printed.items = subst (IsOutcome i w.budget w.gap s) c.in-Stopped.is is in
    let now = subst (λ (x : List ℕ). IsBodyOf i w.budget w.gap s body x) (sym c.deref-in-Stopped.ensures.value)
    (subst (λ (x : List ℕ). IsBodyOf i w.budget w.gap s x c.in-Stopped.printed.items) (sym c.deref.ensures.value) was) in
    let done = searched_end call d u later i s m mid searched in
    let saved = saved_end end w i s body printed mid m now done (on_ok c.save.result went_well c.save.ensures.written) c.save.ensures.crash
    (on_ok c.save.result went_well c.save.ensures.loads) (on_ok c.save.result went_well c.save.ensures.kept) in
    body_saved end w i s body printed done.saved a says now read c.in-Ok.ensures.all (begins_end call d u later i s begins) saved

pub returns-in-Err-clause-ends : goal.returns-in-Err-clause-ends
returns-in-Err-clause-ends g c = λ call i s says is read searched begins.
    let (k, less, front) = c.in-Err.ensures.front in
    let w = c.args.words.now in
    let a = g.D.Desk.told c.args.desk.now in
    let d = g.D.Desk.told c.write_all.new.desk in
    let m = g.L.Slots.told c.args.slots.now in
    let mid = g.L.Slots.past c.args.slots.now in
    let u = g.L.Slots.told c.save.new.slots in
    let later = g.L.Slots.past c.save.new.slots in
    let body = c.deref.result.now in
    let printed = c.deref-in-Stopped.result.now in
    let went_well = sym c.is_err.ensures.value ∙ c.if-is_err.false in
    let end = ending_with d u later call in
    let was : IsBodyOf i w.budget w.gap s c.in-Stopped.body.items c.in-Stopped.printed.items = subst (IsOutcome i w.budget w.gap s) c.in-Stopped.is is in
    let now = subst (λ (x : List ℕ). IsBodyOf i w.budget w.gap s body x) (sym c.deref-in-Stopped.ensures.value)
    (subst (λ (x : List ℕ). IsBodyOf i w.budget w.gap s x c.in-Stopped.printed.items) (sym c.deref.ensures.value) was) in
    let done = searched_end call d u later i s m mid searched in
    let saved = saved_end end w i s body printed mid m now done (on_ok c.save.result went_well c.save.ensures.written) c.save.ensures.crash
    (on_ok c.save.result went_well c.save.ensures.loads) (on_ok c.save.result went_well c.save.ensures.kept) in
    body_torn end w i s body printed done.saved k a says now read front (begins_end call d u later i s begins) saved
