use Rattle.std.proofs.Common.{arith}
use Rattle.slotstore.proofs.Calls.{next_after, not_saved_told, saves_told}
use Rattle.slotstore.proofs.Changes.{always_err}
use Rattle.slotstore.proofs.Failing.{breaks_target_told, saved_settled, target_breaks_told}
use Rattle.slotstore.proofs.Loading.{loads_told}
use Rattle.slotstore.proofs.Settling.{or_new_told, replaced, saved_only}
use Rattle.slotstore.proofs.store.Store.save.Goals as goal

pub returns-in_err-next-clause-failed : goal.returns-in_err-next-clause-failed
returns-in_err-next-clause-failed g c =
    always_err c.from_residual.result _ (breaks_target_told (g.L.Slots.told c.args.slots.now) (g.L.Slots.told c.next_save_unless.new.slots) c.in_err-next.ensures.failed)

pub returns-in_err-next-clause-crash : goal.returns-in_err-next-clause-crash
returns-in_err-next-clause-crash g c = or_new_told c.args.body.now _ _ _ _ c.in_err-next.ensures.crash

pub returns-in_err-next-clause-does : goal.returns-in_err-next-clause-does
returns-in_err-next-clause-does g c =
    not_saved_told c.from_residual.result c.args.body.now (g.L.Slots.past c.args.slots.now) (g.L.Slots.past c.next_save_unless.new.slots) (g.L.Slots.told c.args.slots.now) (g.L.Slots.told c.next_save_unless.new.slots)
    c.from_residual.ensures.0 (or_new_told c.args.body.now _ _ _ _ c.in_err-next.ensures.crash)

pub returns-in_err-replace-clause-failed : goal.returns-in_err-replace-clause-failed
returns-in_err-replace-clause-failed g c =
    always_err c.from_residual-in_err-replace.result _
    (target_breaks_told (g.L.Slots.told c.args.slots.now) (g.L.Slots.told c.next_save_unless.new.slots) (g.L.Slots.told c.replace.new.slots) c.in_ok-next.ensures.settled c.in_err-replace.ensures.kept)

pub returns-in_err-replace-clause-crash : goal.returns-in_err-replace-clause-crash
returns-in_err-replace-clause-crash g c = replaced c.args.body.now _ _ _ _ _ _ c.in_ok-next.ensures.crash c.in_err-replace.ensures.crash

pub returns-in_err-replace-clause-does : goal.returns-in_err-replace-clause-does
returns-in_err-replace-clause-does g c =
    not_saved_told c.from_residual-in_err-replace.result c.args.body.now (g.L.Slots.past c.args.slots.now) (g.L.Slots.past c.replace.new.slots) (g.L.Slots.told c.args.slots.now) (g.L.Slots.told c.replace.new.slots)
    c.from_residual-in_err-replace.ensures.0 (replaced c.args.body.now _ _ _ _ _ _ c.in_ok-next.ensures.crash c.in_err-replace.ensures.crash)

pub returns-clause-stands : goal.returns-clause-stands
returns-clause-stands g c =
    let after = c.after.ensures in
    next_after c.in_ok-next.next c.after.result c.args.body.now (g.L.Slots.told c.next_save_unless.new.slots) (g.L.Slots.told c.replace.new.slots) (omega arith) after.slot after.number
    c.in_ok-next.ensures.next c.in_ok-replace.ensures.written

pub returns-clause-loads : goal.returns-clause-loads
returns-clause-loads g c = loads_told c.args.body.now (g.L.Slots.told c.next_save_unless.new.slots) (g.L.Slots.told c.replace.new.slots) (omega arith) c.in_ok-replace.ensures.written

pub returns-clause-written : goal.returns-clause-written
returns-clause-written g c =
    saved_settled c.args.body.now (g.L.Slots.told c.args.slots.now) (g.L.Slots.told c.next_save_unless.new.slots) (g.L.Slots.told c.replace.new.slots) c.in_ok-next.ensures.settled c.in_ok-replace.ensures.written

pub returns-clause-kept : goal.returns-clause-kept
returns-clause-kept g c =
    saved_only c.args.body.now (g.L.Slots.told c.args.slots.now) (g.L.Slots.told c.next_save_unless.new.slots) (g.L.Slots.told c.replace.new.slots) (omega arith) c.in_ok-next.ensures.settled c.in_ok-replace.ensures.written

pub returns-clause-crash : goal.returns-clause-crash
returns-clause-crash g c = replaced c.args.body.now _ _ _ _ _ _ c.in_ok-next.ensures.crash c.in_ok-replace.ensures.crash

pub returns-clause-does : goal.returns-clause-does
returns-clause-does g c =
    saves_told c.args.body.now (g.L.Slots.past c.args.slots.now) (g.L.Slots.past c.replace.new.slots) (g.L.Slots.told c.args.slots.now) (g.L.Slots.told c.replace.new.slots)
    (saved_only c.args.body.now (g.L.Slots.told c.args.slots.now) (g.L.Slots.told c.next_save_unless.new.slots) (g.L.Slots.told c.replace.new.slots) (omega arith) c.in_ok-next.ensures.settled c.in_ok-replace.ensures.written)
    (replaced c.args.body.now _ _ _ _ _ _ c.in_ok-next.ensures.crash c.in_ok-replace.ensures.crash)
