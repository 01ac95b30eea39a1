-- What slots in memory hold after the calls on record, and the moments on the way.
use Rattle.std.specs.Prelude.{ℕ, ◌-◌, Bool, true, false, List, [], ◌∷◌, ◌++◌, length, take, drop, ◌==◌, if◌then◌else◌}
use Rattle.ports.specs.Slots.{SlotTold, kept_slot, after_write, after_sync}
use Rattle.ports.specs.Crash.{Moment}
use Rattle.ports.specs.declared.record.SlotCall.{SlotCall}
use Rattle.ports.specs.declared.record.SlotCall.TheVariants as kind
use Rattle.ports.specs.declared.record.SlotEntry.{SlotEntry}

-- slots now, and the moments before each write and sync so far, the last first
pub record History : Type 0 where
  pub now : Moment
  pub past : List Moment

-- slots that were made with these bytes, which a crash leaves
abbrev pub first_history : List ℕ → List ℕ → History
first_history slot0 slot1 = record { now = record { slot0 = kept_slot slot0; slot1 = kept_slot slot1 }; past = [] }

-- one slot changed
abbrev pub slot_at : ℕ → Moment → SlotTold
slot_at slot m = if slot == 0 then m.slot0 else m.slot1

abbrev pub with_slot_at : ℕ → SlotTold → Moment → Moment
with_slot_at slot s m = if slot == 0 then record m { slot0 = s } else record m { slot1 = s }

-- a slot after a write that failed: no byte has changed
abbrev pub after_failed_write : ℕ → ℕ → SlotTold → SlotTold
after_failed_write pos size s = record s { unsynced = s.unsynced ++ (record { start = pos; size = size }) ∷ [] }

-- one slot changed by one more write or sync
abbrev pub turned : ℕ → (SlotTold → SlotTold) → History → History
turned slot change h = record { now = with_slot_at slot (change (slot_at slot h.now)) h.now; past = h.now ∷ h.past }

-- one call more, which wrote these bytes if it is a write that succeeded
abbrev pub after_entry : SlotCall → Bool → SlotEntry → List ℕ → History → History
after_entry kind.Write false entry bytes h = turned entry.slot (after_write entry.pos bytes) h
after_entry kind.Write true entry bytes h = turned entry.slot (after_failed_write entry.pos entry.len) h
after_entry kind.Sync false entry bytes h = turned entry.slot after_sync h
after_entry kind.Sync true entry bytes h = turned entry.slot (λ s. s) h
after_entry call failed entry bytes h = h

-- how many bytes a call wrote
abbrev pub wrote : SlotCall → Bool → ℕ → ℕ
wrote kind.Write false len = len
wrote call failed len = 0

-- the history by the record of the calls, newest first, and the bytes of the writes that succeeded, oldest first
abbrev pub history : History → List SlotEntry → List ℕ → History
history first [] written = first
history first (entry ∷ older) written =
    let before = length written - wrote entry.call entry.failed entry.len in
    after_entry entry.call entry.failed entry (drop before written) (history first older (take before written))
