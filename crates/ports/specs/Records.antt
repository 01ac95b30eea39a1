-- The record of the calls of slots in memory.
use Rattle.std.specs.Prelude.{ℕ, ◌+◌, ◌-◌, ◌==◌, ◌||◌, ◌&&◌, length, Bool, true, false, List, [], ◌∷◌, ◌++◌, count_by, if◌then◌else◌}
use Rattle.std.specs.List.{list_any}
use Rattle.ports.specs.declared.record.SlotCall.{SlotCall}
use Rattle.ports.specs.declared.record.SlotCall.TheVariants as kind
use Rattle.ports.specs.declared.record.SlotEntry.{SlotEntry}

-- two kinds of call are the same
abbrev pub is_kind : SlotCall → SlotCall → Bool
is_kind kind.Any kind.Any = true
is_kind kind.Bind kind.Bind = true
is_kind kind.Read kind.Read = true
is_kind kind.Write kind.Write = true
is_kind kind.Sync kind.Sync = true
is_kind a b = false

-- how many calls of a kind are on record
abbrev pub count_of : SlotCall → List SlotEntry → ℕ
count_of call entries = count_by (λ entry. is_kind entry.call call) entries

-- the list names a call: by its number among those of its kind, or by that among all
abbrev pub names : SlotCall → ℕ → ℕ → SlotCall × ℕ → Bool
names call number any bad = is_kind bad.0 call && bad.1 == number || is_kind bad.0 kind.Any && bad.1 == any

-- the next call fails: there is no room for a call, or the list names it; calls are numbered from 1
abbrev pub is_bad_call : ℕ → List (SlotCall × ℕ) → List SlotEntry → SlotCall → Bool
is_bad_call room bad entries call = room == 0 || list_any (names call (count_of call entries + 1) (length entries + 1)) bad

-- the record with one call more, if there is room for one
abbrev pub noted : ℕ → List SlotEntry → SlotEntry → List SlotEntry
noted room entries entry = if room == 0 then entries else entries ++ entry ∷ []

-- the room that a write takes: its bytes, and those between the slot's end and the place, if it has any bytes
abbrev pub write_room : ℕ → ℕ → ℕ → ℕ
write_room pos len end = if len == 0 then 0 else pos - end + len
