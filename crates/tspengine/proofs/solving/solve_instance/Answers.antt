use Rattle.std.proofs.Common.{◌≡◌, List, ℕ, sym, subst, ◌∙◌, Option}
use Rattle.ports.specs.Outside.{BothTell}
use Rattle.ports.specs.Crash.{Moment, Since, moment_of}
use Rattle.ports.specs.Slots.{SlotsTold, with_path}
use Rattle.slotstore.specs.Crashing.{LoadsAs}
use Rattle.tspwords.specs.Program.{restart_word}
use Rattle.tspengine.specs.Calls.{ending_with}
use Rattle.tspengine.specs.Solving.{IsBegun}
use Rattle.verification.proofs.Tells.{on_err, on_ok}
use Rattle.tspengine.proofs.Solves.{unbound_slots, begin_failed}
use Rattle.tspengine.proofs.Storing.{begun_on}
use Rattle.tspengine.proofs.solving.solve_instance.Goals as goal

pub returns-then-is_err-clause-ends : goal.returns-then-is_err-clause-ends
returns-then-is_err-clause-ends g c = λ call says read same none.
    let d = g.D.Desk.told c.args.desk.now in
    let s = g.L.Slots.told c.bind.new.self in
    let kept = on_err c.bind.result (sym c.is_err.ensures.value ∙ c.if-is_err.true) c.bind.ensures.err in
    unbound_slots (ending_with d s (g.L.Slots.past c.bind.new.self) call) c.args.instance.now read (kept ∙ sym same) (c.bind.ensures.past ∙ sym none)

pub returns-in-Err-clause-ends : goal.returns-in-Err-clause-ends
returns-in-Err-clause-ends g c = λ call says read same none.
    let d = g.D.Desk.told c.args.desk.now in
    let s = g.L.Slots.told c.args.slots.now in
    let m = g.L.Slots.told c.bind.new.self in
    let u = g.L.Slots.told c.begin.new.slots in
    let later = g.L.Slots.past c.begin.new.slots in
    let bound = on_ok c.bind.result (sym c.is_err.ensures.value ∙ c.if-is_err.false) c.bind.ensures.bound in
    let at = subst (λ (w : List ℕ). BothTell (λ t u. u ≡ with_path w t) s m) (c.deref.ensures ∙ says.restart) bound in
    let crash = subst (λ (p : List Moment). BothTell (λ t u. Since (LoadsAs (moment_of t)) p later u) m u) (c.bind.ensures.past ∙ sym none) c.begin.ensures.crash in
    begin_failed (ending_with d u later call) c.args.instance.now m read
    (subst (λ (x : Option SlotsTold). BothTell (λ t u. u ≡ with_path (restart_word call.words) t) x m) (sym same) at)
    c.in-Err.ensures.failed crash

pub returns-in-Ok-clause-ends : goal.returns-in-Ok-clause-ends
returns-in-Ok-clause-ends g c = λ call says read same none.
    let s = g.L.Slots.told c.args.slots.now in
    let m = g.L.Slots.told c.bind.new.self in
    let u = g.L.Slots.told c.begin.new.slots in
    let later = g.L.Slots.past c.begin.new.slots in
    let bound = on_ok c.bind.result (sym c.is_err.ensures.value ∙ c.if-is_err.false) c.bind.ensures.bound in
    let at = subst (λ (w : List ℕ). BothTell (λ t u. u ≡ with_path w t) s m) (c.deref.ensures ∙ says.restart) bound in
    let crash = subst (λ (p : List Moment). BothTell (λ t u. Since (LoadsAs (moment_of t)) p later u) m u) (c.bind.ensures.past ∙ sym none) c.begin.ensures.crash in
    let begun = begun_on (restart_word call.words) call.before.moments later s m u at c.in-Ok.ensures.settled crash in
    c.solve_on.ensures.ends call says read
    (subst (λ (x : Option SlotsTold). BothTell (IsBegun (restart_word call.words) call.before.moments later) x u) (sym same) begun)
