-- Slots in memory as their callers see them.
use Rattle.std.specs.Prelude.{ℕ, ◌||◌, Bool, nat_lt, List, length, reverse, ◌≡◌}
use Rattle.ports.specs.Slots.{SlotsTold, slot_of}
use Rattle.ports.specs.Crash.{Moment}
use Rattle.ports.specs.History.{History, first_history, history}
use Rattle.ports.specs.Buffers.{rest_from, path_if}
use Rattle.ports.specs.Records.{is_bad_call, write_room}
use Rattle.ports.specs.declared.room.Room.{Room}
use Rattle.ports.specs.declared.record.SlotCall.{SlotCall}
use Rattle.ports.specs.declared.record.SlotCall.TheVariants as kind
use Rattle.ports.specs.declared.record.SlotEntry.{SlotEntry}
use Rattle.ports.specs.declared.memory_slots.MemSlots.{MemSlots}

-- what they hold, and the moments on the way
abbrev pub history_of : MemSlots → History
history_of s = history (first_history s.first0.items s.first1.items) (reverse s.entries.items) s.written.items

-- the moments before each write and sync so far, the last first
abbrev pub past_of : MemSlots → List Moment
past_of s = (history_of s).past

-- what they tell
abbrev pub told_of : MemSlots → SlotsTold
told_of s = record {
  slot0 = (history_of s).now.slot0;
  slot1 = (history_of s).now.slot1;
  path = path_if s.is_bound (rest_from s.path_at s.paths.items);
  binds = s.binds;
}

-- the calls that are to fail
abbrev pub bad_of : MemSlots → List (SlotCall × ℕ)
bad_of s = s.bad.items

-- the record of the calls
abbrev pub entries_of : MemSlots → List SlotEntry
entries_of s = s.entries.items

-- the bytes of all writes that succeeded, one piece behind the other
abbrev pub written_of : MemSlots → List ℕ
written_of s = s.written.items

-- the paths of all binds that succeeded, one behind the other
abbrev pub paths_of : MemSlots → List ℕ
paths_of s = s.paths.items

-- the room that is left
abbrev pub room_of : MemSlots → Room
room_of s = s.room

abbrev pub faults_of : MemSlots → ℕ
faults_of s = s.faults

-- the next call of a kind fails, whatever its size
abbrev pub call_fails : SlotCall → MemSlots → Bool
call_fails call s = is_bad_call (room_of s).calls (bad_of s) (entries_of s) call

-- a bind of a path of this length fails
abbrev pub bind_fails : ℕ → MemSlots → Bool
bind_fails len s = call_fails kind.Bind s || nat_lt (room_of s).paths len

-- the room that a write of this length at a place takes
abbrev pub room_for : ℕ → ℕ → ℕ → MemSlots → ℕ
room_for slot pos len s = write_room pos len (length (slot_of slot (told_of s)).bytes)

-- a write of this length at a place fails
abbrev pub write_fails : ℕ → ℕ → ℕ → MemSlots → Bool
write_fails slot pos len s = call_fails kind.Write s || nat_lt (room_of s).bytes (room_for slot pos len s)

-- the bytes of both slots, the path and the count of binds are as before
pub record IsUnmoved (old new : SlotsTold) : Type 0 where
  pub slot0 : new.slot0.bytes ≡ old.slot0.bytes
  pub slot1 : new.slot1.bytes ≡ old.slot1.bytes
  pub path : new.path ≡ old.path
  pub binds : new.binds ≡ old.binds
