use Rattle.std.proofs.Common.{◌≡◌, ℕ, List, subst}
use Rattle.ports.specs.Outside.{BothTell}
use Rattle.ports.specs.Crash.{Since, moment_of}
use Rattle.slotstore.specs.Store.{after_save}
use Rattle.slotstore.specs.Crashing.{LoadsAsOr, settled}
use Rattle.tspengine.proofs.Rounds.{keeps_now, one_saved, one_failed}
use Rattle.tspengine.proofs.searching.save.Goals as goal

pub returns-in_err-text-clause-kept : goal.returns-in_err-text-clause-kept
returns-in_err-text-clause-kept g c = λ _. keeps_now (g.L.Slots.past c.args.slots.now) (g.L.Slots.told c.args.slots.now)

pub returns-in-Ok-clause-saved : goal.returns-in-Ok-clause-saved
returns-in-Ok-clause-saved g c =
    let s = g.L.Slots.told c.args.slots.now in
    let u = g.L.Slots.told c.save.new.slots in
    let past = g.L.Slots.past c.args.slots.now in
    let later = g.L.Slots.past c.save.new.slots in
    let bytes = c.in_ok-text.text.bytes.items in
    let written = subst (λ (x : List ℕ). BothTell (λ t u. u ≡ after_save x (settled t)) s u) c.deref.ensures.value c.in-Ok.ensures.written in
    let crash = subst (λ (x : List ℕ). BothTell (λ t u. Since (LoadsAsOr (moment_of t) x) past later u) s u) c.deref.ensures.value c.save.ensures.crash in
    one_saved c.args.boss.now c.in_ok-text.text.bound bytes c.in_ok-text.ensures c.requires.some_open past later s u written crash

pub returns-clause-failed : goal.returns-clause-failed
returns-clause-failed g c = λ _.
    let s = g.L.Slots.told c.args.slots.now in
    let u = g.L.Slots.told c.save.new.slots in
    let past = g.L.Slots.past c.args.slots.now in
    let later = g.L.Slots.past c.save.new.slots in
    let bytes = c.in_ok-text.text.bytes.items in
    let crash = subst (λ (x : List ℕ). BothTell (λ t u. Since (LoadsAsOr (moment_of t) x) past later u) s u) c.deref.ensures.value c.save.ensures.crash in
    one_failed c.args.boss.now c.in_ok-text.text.bound bytes c.in_ok-text.ensures c.requires.some_open past later s u c.in-Err.ensures.failed crash
