use Rattle.std.proofs.Common.{◌≡◌, ◌≤◌, ◌-◌, take, drop, vec_len}
use Rattle.ports.specs.Outside.{WhereTold}
use Rattle.ports.specs.Slots.{slot_of}
use Rattle.slotstore.proofs.body.read_to.Given as goal

abbrev pub invariant-loop-pos : goal.invariant-loop-pos
invariant-loop-pos g l = let told = g.L.Slots.told in record {
  front : 10 ≤ l.pos;
  within : l.pos ≤ l.end;
  size : vec_len l.body ≡ l.pos - 10;
  so_far : WhereTold (λ t. l.body.items ≡ take (l.pos - 10) (drop 10 (slot_of l.slot t).bytes)) (told l.fn.slots);
  told : told l.slots ≡ told l.fn.slots;
  past : g.L.Slots.past l.slots ≡ g.L.Slots.past l.fn.slots;
  faults : g.L.Slots.faults l.fn.slots ≤ g.L.Slots.faults l.slots;
}

abbrev pub decreases-loop-pos : goal.decreases-loop-pos
decreases-loop-pos g l = l.end - l.pos
