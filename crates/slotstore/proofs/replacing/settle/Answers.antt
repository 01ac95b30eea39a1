use Rattle.slotstore.proofs.Failing.{first_breaks_told, second_breaks_told}
use Rattle.slotstore.proofs.Changes.{always_err, on_err}
use Rattle.slotstore.proofs.Settling.{first_failed, second_done}
use Rattle.slotstore.proofs.replacing.settle.Goals as goal

pub returns-in_err-sync-clause-failed : goal.returns-in_err-sync-clause-failed
returns-in_err-sync-clause-failed g c = always_err c.from_residual.result _ (first_breaks_told (g.L.Slots.told c.args.slots.now) (g.L.Slots.told c.sync.new.self) c.in_err-sync.ensures.scrambled)

pub returns-in_err-sync-clause-crash : goal.returns-in_err-sync-clause-crash
returns-in_err-sync-clause-crash g c = let e = c.in_err-sync.ensures in first_failed _ _ _ _ e.scrambled e.past

pub returns-clause-failed : goal.returns-clause-failed
returns-clause-failed g c =
    on_err c.sync-2.result _ _ (second_breaks_told (g.L.Slots.told c.args.slots.now) (g.L.Slots.told c.sync.new.self) (g.L.Slots.told c.sync-2.new.self) c.in_ok-sync.ensures.synced) c.sync-2.ensures.scrambled

pub returns-clause-crash : goal.returns-clause-crash
returns-clause-crash g c =
    let first = c.in_ok-sync.ensures in
    let second = c.sync-2.ensures in
    second_done c.sync-2.result _ _ _ _ _ _ first.synced first.past second.synced second.scrambled second.past
