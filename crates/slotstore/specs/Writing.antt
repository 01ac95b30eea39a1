-- What the steps of a save do to one slot.
use Rattle.std.specs.Prelude.{◌≡◌, ℕ, List, [], ◌∷◌, ◌+◌, ◌==◌, ◌&&◌, nat_le, nat_lt, ◌^◌, Option, Some, None, if◌then◌else◌}
use Rattle.ports.specs.Slots.{kept_slot, SlotsTold, slot_of, with_slot, put_at}
use Rattle.slotstore.specs.Slot.{gate, number, body_length, label}
use Rattle.slotstore.specs.Store.{next_number}

-- nothing changed but one slot
abbrev pub KeepsOthers : ℕ → SlotsTold → SlotsTold → Type 0
KeepsOthers slot old new = new ≡ with_slot slot (slot_of slot new) old

-- one slot holds what `change` makes of its bytes, all synced, and nothing else changed
abbrev pub Becomes : ℕ → (List ℕ → List ℕ) → SlotsTold → SlotsTold → Type 0
Becomes slot change old new =
    new ≡ with_slot slot (kept_slot (change (slot_of slot old).bytes)) old

-- a slot with another gate
abbrev pub with_gate : ℕ → List ℕ → List ℕ
with_gate value bytes = put_at 0 (value ∷ []) bytes

-- a slot with another number, length and body
abbrev pub with_body : ℕ → List ℕ → List ℕ → List ℕ
with_body number body bytes = put_at 10 body (put_at 1 (label number body) bytes)

-- where a slot would end, if its gate is open, its number is one and that place can be named
abbrev pub said_end : List ℕ → Option ℕ
said_end bytes = if gate bytes == 1 && nat_le (number bytes) 2 && nat_lt (10 + body_length bytes) (2 ^ 64)
    then Some (10 + body_length bytes) else None

-- the number of the slot that a save writes, by the numbers of the slots that are whole
abbrev pub number_by : Option ℕ → Option ℕ → ℕ
number_by None None = 0
number_by (Some a) None = next_number a
number_by None (Some b) = next_number b
number_by (Some a) (Some b) = if b == next_number a then next_number b else next_number a
