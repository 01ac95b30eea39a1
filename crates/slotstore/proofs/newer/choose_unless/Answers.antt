use Rattle.slotstore.proofs.Beside.{kept_slot_told}
use Rattle.slotstore.proofs.newer.choose_unless.Goals as goal

pub returns-in-Some-clause-slot : goal.returns-in-Some-clause-slot
returns-in-Some-clause-slot g c = kept_slot_told c.in-Some.next c.args.kept (g.L.Slots.told c.args.slots.now) c.in-Some.is c.requires
