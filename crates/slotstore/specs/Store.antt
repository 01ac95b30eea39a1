-- What two slots hold as a store of one body, and what a save makes of them.
use Rattle.std.specs.Prelude.{◌≡◌, ℕ, ◌+◌, ◌-◌, ◌%◌, ◌==◌, List, ◌++◌, length, drop, Option, Some, None, option_map, if◌then◌else◌}
use Rattle.std.specs.Option.{option_map_or}
use Rattle.ports.specs.Slots.{kept_slot, SlotsTold, slot_of, with_slot}
use Rattle.slotstore.specs.Slot.{number, is_valid, body_of, whole_slot}

-- the number of a slot, where it is whole
abbrev pub valid_number : List ℕ → Option ℕ
valid_number bytes = if is_valid bytes then Some (number bytes) else None

-- the number after another; the three go round
abbrev pub next_number : ℕ → ℕ
next_number number = (number + 1) % 3

-- the newer of two slots, by their numbers: the one whose number comes after the other's, with equal numbers slot 0; else
-- the only one that is whole
abbrev pub newer_by : Option ℕ → Option ℕ → Option ℕ
newer_by None None = None
newer_by (Some a) None = Some 0
newer_by None (Some b) = Some 1
newer_by (Some a) (Some b) = if b == next_number a then Some 1 else Some 0

abbrev pub newer : SlotsTold → Option ℕ
newer t = newer_by (valid_number t.slot0.bytes) (valid_number t.slot1.bytes)

-- the body that a store gives: that of the newer slot, if a slot is whole
abbrev pub loaded : SlotsTold → Option (List ℕ)
loaded t = option_map (λ slot. body_of (slot_of slot t).bytes) (newer t)

-- the slot that a save writes: the one that is not the newer; slot 0 where none is whole
abbrev pub target : SlotsTold → ℕ
target t = option_map_or (λ slot. 1 - slot) (newer t) 0

-- the number that it gets: the one after the newer slot's; 0 where none is whole
abbrev pub target_number : SlotsTold → ℕ
target_number t = option_map_or (λ slot. next_number (number (slot_of slot t).bytes)) (newer t) 0

-- slots after a save: the target has the body and, past it, what stood there; all of it is synced
abbrev pub after_save : List ℕ → SlotsTold → SlotsTold
after_save body t = with_slot (target t) (kept_slot (whole_slot (target_number t) body ++ drop (10 + length body) (slot_of (target t) t).bytes)) t

-- nothing changed but the slot that a save writes
abbrev pub ChangesTarget : SlotsTold → SlotsTold → Type 0
ChangesTarget old new = new ≡ with_slot (target old) (slot_of (target old) new) old
