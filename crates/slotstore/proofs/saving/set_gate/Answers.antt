use Rattle.std.proofs.Common.{[], ◌∷◌, arith}
use Rattle.slotstore.proofs.Told.{starts, writes, tears, syncs}
use Rattle.slotstore.proofs.saving.set_gate.Goals as goal

pub returns-in_err-write_at-clause-crash : goal.returns-in_err-write_at-clause-crash
returns-in_err-write_at-clause-crash g c =
    let past = g.L.Slots.past c.args.slots.now in
    let failed = c.in_err-write_at.ensures in
    tears c.args.slot 0 1 past past _ _ _ _ 0 1 (record { begins = omega arith; ends = omega arith }) (starts c.args.slot 0 1 past (g.L.Slots.told c.args.slots.now)) failed.torn failed.past

pub returns-clause-crash : goal.returns-clause-crash
returns-clause-crash g c =
    let past = g.L.Slots.past c.args.slots.now in
    let wrote = c.in_ok-write_at.ensures in
    let sync = c.sync.ensures in
    syncs c.sync.result c.args.slot 0 1 past _ _ (g.L.Slots.told c.args.slots.now) (g.L.Slots.told c.write_at.new.self) (g.L.Slots.told c.sync.new.self)
    (writes c.args.slot 0 1 past past _ _ _ _ 0 (c.args.gate ∷ []) (record { begins = omega arith; ends = omega arith }) (starts c.args.slot 0 1 past (g.L.Slots.told c.args.slots.now)) wrote.written wrote.past)
    sync.synced sync.scrambled sync.past
