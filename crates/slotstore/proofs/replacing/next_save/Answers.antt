use Rattle.slotstore.proofs.Calls.{next_result}
use Rattle.slotstore.proofs.Changes.{always_err}
use Rattle.slotstore.proofs.Failing.{settled_breaks_told}
use Rattle.slotstore.proofs.replacing.next_save.Goals as goal

pub returns-clause-next : goal.returns-clause-next
returns-clause-next g c =
    next_result c.choose.result (g.L.Slots.told c.args.slots.now) (g.L.Slots.told c.settle.new.slots) (g.L.Slots.told c.choose.new.slots) c.in_ok-settle.ensures.settled
    c.choose.ensures.told c.choose.ensures.slot c.choose.ensures.number

pub returns-clause-failed : goal.returns-clause-failed
returns-clause-failed g c =
    always_err c.choose.result _
    (settled_breaks_told (g.L.Slots.told c.args.slots.now) (g.L.Slots.told c.settle.new.slots) (g.L.Slots.told c.choose.new.slots) c.in_ok-settle.ensures.settled c.choose.ensures.told)
