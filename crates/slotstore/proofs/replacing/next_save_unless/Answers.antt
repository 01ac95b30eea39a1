use Rattle.slotstore.proofs.Calls.{kept_next}
use Rattle.slotstore.proofs.Failing.{same_settled}
use Rattle.slotstore.proofs.Settling.{nothing_yet}
use Rattle.slotstore.proofs.replacing.next_save_unless.Goals as goal

pub returns-in-Some-clause-next : goal.returns-in-Some-clause-next
returns-in-Some-clause-next g c = kept_next c.in-Some.next c.args.kept (g.L.Slots.told c.args.slots.now) c.in-Some.is c.requires

pub returns-in-Some-clause-settled : goal.returns-in-Some-clause-settled
returns-in-Some-clause-settled g c = same_settled c.in-Some.next (g.L.Slots.told c.args.slots.now) (kept_next c.in-Some.next c.args.kept (g.L.Slots.told c.args.slots.now) c.in-Some.is c.requires)

pub returns-in-Some-clause-crash : goal.returns-in-Some-clause-crash
returns-in-Some-clause-crash g c = nothing_yet (g.L.Slots.past c.args.slots.now) (g.L.Slots.told c.args.slots.now)
