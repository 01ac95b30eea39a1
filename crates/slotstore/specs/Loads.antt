-- What a load gives.
use Rattle.std.specs.Prelude.{◌≡◌, ℕ, ◌-◌, nat_le, false, List, length, take, drop, Option, Some, None, option_map, if◌then◌else◌}
use Rattle.std.specs.Global.{Vec}
use Rattle.ports.specs.Slots.{SlotsTold}
use Rattle.slotstore.specs.Slot.{is_valid, body_of}

-- the bytes of a body, if there is one
abbrev pub items_of : Option (Vec ℕ) → Option (List ℕ)
items_of body = option_map (λ list. list.items) body

-- the body of a slot, if it is whole
abbrev pub valid_body : List ℕ → Option (List ℕ)
valid_body bytes = if is_valid bytes then Some (body_of bytes) else None

-- what stands behind the front of a slot up to a place, if the slot reaches so far
abbrev pub body_to : ℕ → List ℕ → Option (List ℕ)
body_to end bytes = if nat_le end (length bytes) then Some (take (end - 10) (drop 10 bytes)) else None

-- no slot is whole
pub record HasNoBody (t : SlotsTold) : Type 0 where
  pub slot0 : is_valid t.slot0.bytes ≡ false
  pub slot1 : is_valid t.slot1.bytes ≡ false
