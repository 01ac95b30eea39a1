use Rattle.std.proofs.Common.{◌∙◌}
use Rattle.slotstore.proofs.Beside.{beside_result, none_result}
use Rattle.slotstore.proofs.Calls.{load_does}
use Rattle.slotstore.proofs.store.Store.load.Goals as goal

pub returns-clause-loads : goal.returns-clause-loads
returns-clause-loads g c =
    let at = c.in_ok-next.ensures in
    beside_result c.read_body.result c.in_ok-next.next.slot (g.L.Slots.told c.args.slots.now) (g.L.Slots.told c.choose_unless.new.slots) at.told at.slot c.read_body.ensures.body

pub returns-clause-none : goal.returns-clause-none
returns-clause-none g c =
    let at = c.in_ok-next.ensures in
    none_result c.read_body.result (g.L.Slots.told c.args.slots.now)
    (beside_result c.read_body.result c.in_ok-next.next.slot (g.L.Slots.told c.args.slots.now) (g.L.Slots.told c.choose_unless.new.slots) at.told at.slot c.read_body.ensures.body)

pub returns-clause-does : goal.returns-clause-does
returns-clause-does g c =
    let at = c.in_ok-next.ensures in
    let read = c.read_body.ensures in
    load_does c.read_body.result (g.L.Slots.past c.args.slots.now) (g.L.Slots.past c.read_body.new.slots) (g.L.Slots.told c.args.slots.now) (g.L.Slots.told c.read_body.new.slots)
    (beside_result c.read_body.result c.in_ok-next.next.slot (g.L.Slots.told c.args.slots.now) (g.L.Slots.told c.choose_unless.new.slots) at.told at.slot read.body)
    (read.told ∙ at.told) (read.past ∙ at.past)
