use Rattle.std.proofs.Common.{◌≡◌, ◌≤◌, ◌-◌, take, length}
use Rattle.ports.specs.Outside.{WhereTold}
use Rattle.ports.specs.Slots.{slot_of}
use Rattle.slotstore.proofs.header.read_front.Given as goal

abbrev pub invariant-loop-done : goal.invariant-loop-done
invariant-loop-done g l = let told = g.L.Slots.told in record {
  within : l.done ≤ length l.front;
  size : length l.front ≡ length l.fn.front;
  so_far : WhereTold (λ t. take l.done l.front ≡ take l.done (slot_of l.slot t).bytes) (told l.fn.slots);
  told : told l.slots ≡ told l.fn.slots;
  past : g.L.Slots.past l.slots ≡ g.L.Slots.past l.fn.slots;
  faults : g.L.Slots.faults l.fn.slots ≤ g.L.Slots.faults l.slots;
}

abbrev pub decreases-loop-done : goal.decreases-loop-done
decreases-loop-done g l = length l.initial.front - l.done
