use Rattle.std.proofs.Common.{◌≡◌, List, sym, subst, Option, true, false}
use Rattle.ports.specs.Outside.{BothTell, WhereTold}
use Rattle.ports.specs.Crash.{Moment}
use Rattle.ports.specs.Slots.{SlotsTold}
use Rattle.slotstore.specs.Store.{loaded}
use Rattle.tspwords.specs.Program.{restart_word}
use Rattle.tspengine.specs.Calls.{ending_with}
use Rattle.tspengine.specs.Begun.{IsBegunAnew, IsBegunWith}
use Rattle.tspengine.specs.Solving.{IsBegun}
use Rattle.tspengine.specs.declared.starting.Begun.{Begun}
use Rattle.tspengine.proofs.Solves.{body_refused}
use Rattle.tspengine.proofs.Joining.{begins_of, refused_of, halted_begin}
use Rattle.tspengine.proofs.solving.solve_on.Goals as goal

pub returns-in-Ok-Search-clause-ends : goal.returns-in-Ok-Search-clause-ends
returns-in-Ok-Search-clause-ends g c = λ call says read is.
    let w = c.args.words.now in
    let i = c.args.instance.now in
    let s = c.in-Ok-Search.search in
    let m = g.L.Slots.told c.args.slots.now in
    let past = g.L.Slots.past c.args.slots.now in
    let begins = begins_of call w i s past m says is
    (subst (λ (b : Begun). w.resume ≡ false → IsBegunAnew i b) c.in-Ok-Search.field-0-is c.in-Ok-Search.ensures.anew)
    (subst (λ (b : Begun). w.resume ≡ true → WhereTold (λ t. IsBegunWith i w.budget w.gap (loaded t) b) m) c.in-Ok-Search.field-0-is c.in-Ok-Search.ensures.resumed) in
    c.solve_by.ensures.ends call says read
    (subst (λ (x : Option SlotsTold). BothTell (IsBegun (restart_word call.words) call.before.moments (g.L.Slots.past c.begin.new.slots)) call.before.slots x) (sym c.begin.ensures.told)
    (subst (λ (p : List Moment). BothTell (IsBegun (restart_word call.words) call.before.moments p) call.before.slots m) (sym c.begin.ensures.past) is))
    begins

pub returns-in-Ok-Refused-clause-ends : goal.returns-in-Ok-Refused-clause-ends
returns-in-Ok-Refused-clause-ends g c = λ call says read is.
    let w = c.args.words.now in
    let i = c.args.instance.now in
    let refusal = c.in-Ok-Refused.refusal in
    let line = c.in-Ok-Refused.line in
    let m = g.L.Slots.told c.args.slots.now in
    let past = g.L.Slots.past c.args.slots.now in
    let later = g.L.Slots.past c.begin.new.slots in
    let u = g.L.Slots.told c.begin.new.slots in
    let a = g.D.Desk.told c.args.desk.now in
    let d = g.D.Desk.told c.refuse_body.new.desk in
    let told = refused_of call w i refusal line past m says is
    (subst (λ (b : Begun). w.resume ≡ false → IsBegunAnew i b) c.in-Ok-Refused.field-0-is c.in-Ok-Refused.ensures.anew)
    (subst (λ (b : Begun). w.resume ≡ true → WhereTold (λ t. IsBegunWith i w.budget w.gap (loaded t) b) m) c.in-Ok-Refused.field-0-is c.in-Ok-Refused.ensures.resumed) in
    body_refused (ending_with d u later call) i refusal line a c.refuse_body.result read
    (subst (λ (x : Option SlotsTold). BothTell (IsBegun (restart_word call.words) call.before.moments later) call.before.slots x) (sym c.begin.ensures.told)
    (subst (λ (p : List Moment). BothTell (IsBegun (restart_word call.words) call.before.moments p) call.before.slots m) (sym c.begin.ensures.past) is))
    told.0 told.1 c.refuse_body.ensures.ends

pub returns-in-Err-clause-ends : goal.returns-in-Err-clause-ends
returns-in-Err-clause-ends g c = λ call says read is.
    let m = g.L.Slots.told c.args.slots.now in
    let later = g.L.Slots.past c.begin.new.slots in
    let u = g.L.Slots.told c.begin.new.slots in
    halted_begin (ending_with (g.D.Desk.told c.args.desk.now) u later call) c.args.instance.now c.in-Err.halt c.halted.result c.halted.ensures.fault c.halted.ensures.memory read
    (subst (λ (x : Option SlotsTold). BothTell (IsBegun (restart_word call.words) call.before.moments later) call.before.slots x) (sym c.begin.ensures.told)
    (subst (λ (p : List Moment). BothTell (IsBegun (restart_word call.words) call.before.moments p) call.before.slots m) (sym c.begin.ensures.past) is))
