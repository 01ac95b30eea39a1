-- What a crash may leave of two slots as a store of one body.
use Rattle.std.specs.Prelude.{◌≡◌, ℕ, ◌+◌, ◌<◌, ◌≤◌, ◌==◌, ◌&&◌, ◌⊎◌, not, nat_lt, max, Bool, false, List, length, slice_index, Option, Some, if◌then◌else◌}
use Rattle.ports.specs.Crash.{Moment, IsImage, MayLeave, moment_of}
use Rattle.ports.specs.History.{slot_at, with_slot_at}
use Rattle.ports.specs.Slots.{SlotsTold, IsOutside, slot_of, kept_slot}
use Rattle.slotstore.specs.Slot.{gate, is_valid}
use Rattle.slotstore.specs.Store.{loaded}
use Rattle.slotstore.specs.Writing.{with_gate}

-- a crash at a moment may leave slots that load so
abbrev pub MayLoad : Moment → Option (List ℕ) → Type 0
MayLoad m body = (left : SlotsTold) × MayLeave m left × (loaded left ≡ body)

-- a crash at a moment leaves slots that load so
abbrev pub LoadsOnly : Option (List ℕ) → SlotsTold → Type 0
LoadsOnly body t = (left : SlotsTold) → MayLeave (moment_of t) left → loaded left ≡ body

-- a crash at a moment leaves what one at an earlier moment could have left, or this body
abbrev pub LoadsAsOr : Moment → List ℕ → Moment → Type 0
LoadsAsOr before body m = (left : SlotsTold) → MayLeave m left → MayLoad before (loaded left) ⊎ (loaded left ≡ Some body)

-- a crash at a moment leaves what one at an earlier moment could have left
abbrev pub LoadsAs : Moment → Moment → Type 0
LoadsAs before m = (left : SlotsTold) → MayLeave m left → MayLoad before (loaded left)

-- a crash at a moment leaves what these slots load, or this body
abbrev pub ReadsOr : SlotsTold → List ℕ → Moment → Type 0
ReadsOr t body m = (left : SlotsTold) → MayLeave m left → (loaded left ≡ loaded t) ⊎ (loaded left ≡ Some body)

-- of a slot a crash leaves what reads give
abbrev pub IsKept : ℕ → SlotsTold → Type 0
IsKept slot t = slot_of slot t ≡ kept_slot (slot_of slot t).bytes

-- so it is of both
pub record IsSettled (t : SlotsTold) : Type 0 where
  pub slot0 : IsKept 0 t
  pub slot1 : IsKept 1 t

-- slots that were both synced
abbrev pub settled : SlotsTold → SlotsTold
settled t = record t { slot0 = kept_slot t.slot0.bytes; slot1 = kept_slot t.slot1.bytes }

-- A call that failed: the path and the count of binds stay, and slots of which a crash left what reads gave are related so.
pub record Breaks (R : SlotsTold → SlotsTold → Type 0) (old new : SlotsTold) : Type 0 where
  pub path : new.path ≡ old.path
  pub binds : new.binds ≡ old.binds
  pub kept : IsSettled old → R old new

-- bytes that a crash may leave while some are written in a range
pub record IsStray (from size : ℕ) (old bytes : List ℕ) : Type 0 where
  pub no_shorter : length old ≤ length bytes
  pub no_longer : length bytes ≤ max (length old) (from + size)
  pub same : (k : ℕ) → k < length old → IsOutside k (record { start = from; size = size }) → slice_index bytes k ≡ slice_index old k

-- at a moment nothing has changed but one slot, of which a crash leaves bytes that have Q
pub record Leaves (slot : ℕ) (Q : List ℕ → Type 0) (t : SlotsTold) (m : Moment) : Type 0 where
  pub others : m ≡ with_slot_at slot (slot_at slot m) (moment_of t)
  pub images : (bytes : List ℕ) → IsImage (slot_at slot m) bytes → Q bytes

-- a slot has a gate, and it is closed
abbrev pub is_shut : List ℕ → Bool
is_shut bytes = nat_lt 0 (length bytes) && not (gate bytes == 1)

-- a slot whose gate was shut, if it was not
abbrev pub shut : List ℕ → List ℕ
shut bytes = if is_shut bytes then bytes else with_gate 0 bytes

-- the same bytes, or none that are whole
abbrev pub SameOrNone : List ℕ → List ℕ → Type 0
SameOrNone old bytes = (bytes ≡ old) ⊎ (is_valid bytes ≡ false)

abbrev pub IsNone : List ℕ → Type 0
IsNone bytes = is_valid bytes ≡ false
