use Rattle.std.proofs.Common.{◌+◌, length, arith}
use Rattle.slotstore.proofs.Calls.{starts_next}
use Rattle.slotstore.proofs.Failing.{to_target_told}
use Rattle.slotstore.proofs.Changes.{kept_then}
use Rattle.slotstore.proofs.Steps.{shut_first, shut_way, fill_next, fill_way, open_next, all_saved}
use Rattle.slotstore.proofs.replacing.replace.Goals as goal

pub returns-in_err-shut-clause-crash : goal.returns-in_err-shut-clause-crash
returns-in_err-shut-clause-crash g c =
    let t = g.L.Slots.told c.args.slots.now in
    let past = g.L.Slots.past c.args.slots.now in
    let body = c.args.body.now in
    let start = starts_next c.args.next t c.requires in
    shut_first c.args.next.slot c.args.next.number body past (g.L.Slots.past c.shut.new.slots) t (g.L.Slots.told c.shut.new.slots) c.args.next.is_slot (omega arith) start c.in_err-shut.ensures.crash

pub returns-in_err-fill-clause-crash : goal.returns-in_err-fill-clause-crash
returns-in_err-fill-clause-crash g c =
    let t = g.L.Slots.told c.args.slots.now in
    let past = g.L.Slots.past c.args.slots.now in
    let body = c.args.body.now in
    let start = starts_next c.args.next t c.requires in
    let told_shut = g.L.Slots.told c.shut.new.slots in
    let way = shut_way c.args.next.slot c.args.next.number body past (g.L.Slots.past c.shut.new.slots) t told_shut c.args.next.is_slot (omega arith) start c.in_ok-shut.ensures.crash c.in_ok-shut.ensures.written in
    fill_next c.args.next.slot c.args.next.number (9 + length body) body past (g.L.Slots.past c.shut.new.slots) (g.L.Slots.past c.fill.new.slots) t told_shut (g.L.Slots.told c.fill.new.slots) c.args.next.is_slot (omega arith) way c.in_err-fill.ensures.crash

pub returns-clause-written : goal.returns-clause-written
returns-clause-written g c =
    let t = g.L.Slots.told c.args.slots.now in
    let past = g.L.Slots.past c.args.slots.now in
    let body = c.args.body.now in
    let start = starts_next c.args.next t c.requires in
    let told_shut = g.L.Slots.told c.shut.new.slots in
    let way = shut_way c.args.next.slot c.args.next.number body past (g.L.Slots.past c.shut.new.slots) t told_shut c.args.next.is_slot (omega arith) start c.in_ok-shut.ensures.crash c.in_ok-shut.ensures.written in
    let filled = fill_way c.args.next.slot c.args.next.number (9 + length body) body past (g.L.Slots.past c.shut.new.slots) (g.L.Slots.past c.fill.new.slots) t told_shut (g.L.Slots.told c.fill.new.slots) c.args.next.is_slot (omega arith) way
    c.in_ok-fill.ensures.crash c.in_ok-fill.ensures.written in
    all_saved c.set_gate.result c.args.next.slot c.args.next.number body past (g.L.Slots.past c.fill.new.slots) t (g.L.Slots.told c.fill.new.slots) (g.L.Slots.told c.set_gate.new.slots) filled c.set_gate.ensures.written

pub returns-clause-crash : goal.returns-clause-crash
returns-clause-crash g c =
    let t = g.L.Slots.told c.args.slots.now in
    let past = g.L.Slots.past c.args.slots.now in
    let body = c.args.body.now in
    let start = starts_next c.args.next t c.requires in
    let told_shut = g.L.Slots.told c.shut.new.slots in
    let way = shut_way c.args.next.slot c.args.next.number body past (g.L.Slots.past c.shut.new.slots) t told_shut c.args.next.is_slot (omega arith) start c.in_ok-shut.ensures.crash c.in_ok-shut.ensures.written in
    let filled = fill_way c.args.next.slot c.args.next.number (9 + length body) body past (g.L.Slots.past c.shut.new.slots) (g.L.Slots.past c.fill.new.slots) t told_shut (g.L.Slots.told c.fill.new.slots) c.args.next.is_slot (omega arith) way
    c.in_ok-fill.ensures.crash c.in_ok-fill.ensures.written in
    open_next c.args.next.slot c.args.next.number body past (g.L.Slots.past c.fill.new.slots) (g.L.Slots.past c.set_gate.new.slots) t (g.L.Slots.told c.fill.new.slots) (g.L.Slots.told c.set_gate.new.slots) c.args.next.is_slot (omega arith) filled c.set_gate.ensures.crash

pub returns-in_err-shut-clause-kept : goal.returns-in_err-shut-clause-kept
returns-in_err-shut-clause-kept g c = to_target_told c.args.next _ _ c.requires c.in_err-shut.ensures.kept

pub returns-in_err-fill-clause-kept : goal.returns-in_err-fill-clause-kept
returns-in_err-fill-clause-kept g c = to_target_told c.args.next _ _ c.requires (kept_then c.args.next.slot _ _ _ c.in_ok-shut.ensures.kept c.in_err-fill.ensures.kept)

pub returns-clause-kept : goal.returns-clause-kept
returns-clause-kept g c =
    to_target_told c.args.next _ _ c.requires (kept_then c.args.next.slot _ _ _ (kept_then c.args.next.slot _ _ _ c.in_ok-shut.ensures.kept c.in_ok-fill.ensures.kept) c.set_gate.ensures.kept)
