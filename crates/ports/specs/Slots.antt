-- What slots tell.
use Rattle.std.specs.Prelude.{◌≡◌, ℕ, ◌+◌, ◌-◌, ◌==◌, ◌<◌, ◌≤◌, ◌⊎◌, max, List, [], ◌∷◌, ◌++◌, length, take, drop, replicate, slice_index, All, Option, Some, if◌then◌else◌}

-- a range of places in a slot
pub record Range : Type 0 where
  pub start : ℕ
  pub size : ℕ

-- a place that the range does not hold
abbrev pub IsOutside : ℕ → Range → Type 0
IsOutside k range = (k < range.start) ⊎ (range.start + range.size ≤ k)

-- what one slot tells: the bytes that a read gives, the ranges written since its last sync that succeeded, and how many
-- bytes it had then
pub record SlotTold : Type 0 where
  pub bytes : List ℕ
  pub unsynced : List Range
  pub synced : ℕ

-- what slots tell: the two slots, the path last bound, and how often one was bound
pub record SlotsTold : Type 0 where
  pub slot0 : SlotTold
  pub slot1 : SlotTold
  pub path : Option (List ℕ)
  pub binds : ℕ

-- one of the slots
abbrev pub slot_of : ℕ → SlotsTold → SlotTold
slot_of slot t = if slot == 0 then t.slot0 else t.slot1

-- the same but for one slot
abbrev pub with_slot : ℕ → SlotTold → SlotsTold → SlotsTold
with_slot slot s t = if slot == 0 then record t { slot0 = s } else record t { slot1 = s }

-- the same but for the path, and one bind more
abbrev pub with_path : List ℕ → SlotsTold → SlotsTold
with_path path t = record t { path = Some path; binds = t.binds + 1 }

-- bytes with a piece written over them at a place, behind zeros where it lies past their end; to write nothing changes nothing
abbrev pub put_at : ℕ → List ℕ → List ℕ → List ℕ
put_at pos [] old = old
put_at pos (b ∷ bs) old =
    take pos old ++ (replicate (pos - length old) 0 ++ (b ∷ bs ++ drop (pos + length (b ∷ bs)) old))

-- a slot after a write
abbrev pub after_write : ℕ → List ℕ → SlotTold → SlotTold
after_write pos bytes s = record {
  bytes = put_at pos bytes s.bytes;
  unsynced = s.unsynced ++ (record { start = pos; size = length bytes }) ∷ [];
  synced = s.synced;
}

-- a slot of which a crash leaves just these bytes
abbrev pub kept_slot : List ℕ → SlotTold
kept_slot bytes = record { bytes = bytes; unsynced = []; synced = length bytes }

-- a slot after a sync
abbrev pub after_sync : SlotTold → SlotTold
after_sync s = kept_slot s.bytes

-- a slot after a write that failed: any bytes in the range, as far as it reaches; elsewhere as before, and zeros past the old end
pub record IsTorn (range : Range) (old new : SlotTold) : Type 0 where
  pub no_shorter : length old.bytes ≤ length new.bytes
  pub no_longer : length new.bytes ≤ max (length old.bytes) (range.start + range.size)
  pub outside : (k : ℕ) → k < length new.bytes → IsOutside k range → slice_index new.bytes k ≡ slice_index old.bytes k
  pub ranges : (new.unsynced ≡ old.unsynced) ⊎ (new.unsynced ≡ old.unsynced ++ range ∷ [])
  pub synced : new.synced ≡ old.synced

-- a slot after a sync that failed: any bytes in the ranges that were not synced
pub record IsScrambled (old new : SlotTold) : Type 0 where
  pub same_length : length new.bytes ≡ length old.bytes
  pub outside : (k : ℕ) → k < length new.bytes → All (IsOutside k) old.unsynced → slice_index new.bytes k ≡ slice_index old.bytes k
  pub ranges : new.unsynced ≡ old.unsynced
  pub synced : new.synced ≡ old.synced

-- one slot changed so, and nothing else
pub record ChangesSlot (slot : ℕ) (R : SlotTold → SlotTold → Type 0) (old new : SlotsTold) : Type 0 where
  pub changed : R (slot_of slot old) (slot_of slot new)
  pub others : new ≡ with_slot slot (slot_of slot new) old

-- a place is at or past a slot's end
abbrev pub IsPastEnd : ℕ → ℕ → SlotsTold → Type 0
IsPastEnd slot pos t = length (slot_of slot t).bytes ≤ pos
