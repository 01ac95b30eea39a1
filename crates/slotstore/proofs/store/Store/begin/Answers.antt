use Rattle.slotstore.proofs.Calls.{begins_told, found_told, not_begun_told}
use Rattle.slotstore.proofs.Settling.{only_told}
use Rattle.slotstore.proofs.store.Store.begin.Goals as goal

pub returns-in_err-next-clause-does : goal.returns-in_err-next-clause-does
returns-in_err-next-clause-does g c =
    not_begun_told c.from_residual.result (g.L.Slots.past c.args.slots.now) (g.L.Slots.past c.next_save.new.slots) (g.L.Slots.told c.args.slots.now) (g.L.Slots.told c.next_save.new.slots)
    c.from_residual.ensures.0 c.in_err-next.ensures.crash

pub returns-clause-found : goal.returns-clause-found
returns-clause-found g c = found_told (g.L.Slots.told c.args.slots.now) (g.L.Slots.told c.next_save.new.slots) c.in_ok-next.ensures.settled

pub returns-clause-kept : goal.returns-clause-kept
returns-clause-kept g c = only_told (g.L.Slots.told c.args.slots.now) (g.L.Slots.told c.next_save.new.slots) c.in_ok-next.ensures.settled

pub returns-clause-does : goal.returns-clause-does
returns-clause-does g c =
    let t = g.L.Slots.told c.args.slots.now in
    let u = g.L.Slots.told c.next_save.new.slots in
    let e = c.in_ok-next.ensures in
    begins_told (g.L.Slots.past c.args.slots.now) (g.L.Slots.past c.next_save.new.slots) t u (found_told t u e.settled) (only_told t u e.settled) e.crash
