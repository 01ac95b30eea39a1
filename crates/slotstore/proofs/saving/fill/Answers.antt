use Rattle.std.proofs.Common.{◌+◌, length, arith}
use Rattle.slotstore.proofs.Told.{starts, writes, tears, syncs, label_in}
use Rattle.slotstore.proofs.saving.fill.Goals as goal

pub returns-in_err-write_at-clause-crash : goal.returns-in_err-write_at-clause-crash
returns-in_err-write_at-clause-crash g c =
    let past = g.L.Slots.past c.args.slots.now in
    let size = 9 + length c.args.body.now in
    let failed = c.in_err-write_at.ensures in
    tears c.args.slot 1 size past past _ _ _ _ 1 (length c.label-label.result) (label_in _ _ (length c.args.body.now) c.label-label.result c.label-label.ensures) (starts c.args.slot 1 size past (g.L.Slots.told c.args.slots.now)) failed.torn failed.past

pub returns-in_err-write_at-2-clause-crash : goal.returns-in_err-write_at-2-clause-crash
returns-in_err-write_at-2-clause-crash g c =
    let past = g.L.Slots.past c.args.slots.now in
    let size = 9 + length c.args.body.now in
    let wrote = c.in_ok-write_at.ensures in
    let failed = c.in_err-write_at-2.ensures in
    tears c.args.slot 1 size past _ _ (g.L.Slots.told c.args.slots.now) (g.L.Slots.told c.write_at.new.self) _ 10 (length c.args.body.now) (record { begins = omega arith; ends = omega arith })
    (writes c.args.slot 1 size past past _ _ _ _ 1 c.label-label.result (label_in _ _ (length c.args.body.now) c.label-label.result c.label-label.ensures) (starts c.args.slot 1 size past (g.L.Slots.told c.args.slots.now)) wrote.written wrote.past)
    failed.torn failed.past

pub returns-clause-crash : goal.returns-clause-crash
returns-clause-crash g c =
    let past = g.L.Slots.past c.args.slots.now in
    let size = 9 + length c.args.body.now in
    let wrote = c.in_ok-write_at.ensures in
    let wrote_body = c.in_ok-write_at-2.ensures in
    let sync = c.sync.ensures in
    syncs c.sync.result c.args.slot 1 size past _ _ (g.L.Slots.told c.args.slots.now) (g.L.Slots.told c.write_at-2.new.self) (g.L.Slots.told c.sync.new.self)
    (writes c.args.slot 1 size past _ _ (g.L.Slots.told c.args.slots.now) (g.L.Slots.told c.write_at.new.self) _ 10 c.args.body.now (record { begins = omega arith; ends = omega arith })
    (writes c.args.slot 1 size past past _ _ _ _ 1 c.label-label.result (label_in _ _ (length c.args.body.now) c.label-label.result c.label-label.ensures) (starts c.args.slot 1 size past (g.L.Slots.told c.args.slots.now)) wrote.written wrote.past)
    wrote_body.written wrote_body.past)
    sync.synced sync.scrambled sync.past
