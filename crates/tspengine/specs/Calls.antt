-- A call of `run`, and what is told of it.
use Rattle.std.specs.Prelude.{◌≡◌, ℕ, List, Option}
use Rattle.clap.specs.Walk.{Text}
use Rattle.ports.specs.Outside.{BothTell, WhereTold}
use Rattle.ports.specs.Desk.{Told}
use Rattle.ports.specs.Slots.{SlotsTold}
use Rattle.ports.specs.Crash.{Moment, Since}
use Rattle.verification.specs.Counts.{IsCalm, IsTold}

-- the outside at a moment: what the desk and the slots tell, where they tell, the slots' moments before, the last first, and how
-- often a call of theirs has failed
pub record Outside : Type 0 where
  pub desk : Option Told
  pub slots : Option SlotsTold
  pub moments : List Moment
  pub read_faults : ℕ
  pub write_faults : ℕ
  pub store_faults : ℕ

-- the words of a command line, and the outside before and after the call
pub record Call : Type 0 where
  pub words : List Text
  pub before : Outside
  pub after : Outside

-- ---- where the desk or the slots tell

-- what the desk told before is so
abbrev pub DeskHad : (Told → Type 0) → Call → Type 0
DeskHad P c = WhereTold P c.before.desk

-- the desk is now so related to what it was
abbrev pub DeskMoved : (Told → Told → Type 0) → Call → Type 0
DeskMoved R c = BothTell R c.before.desk c.after.desk

-- the desk is now what these changes make of it
abbrev pub DeskIs : (Told → Told) → Call → Type 0
DeskIs change c = DeskMoved (λ t u. u ≡ change t) c

-- the slots are now so related to what they were
abbrev pub SlotsMoved : (SlotsTold → SlotsTold → Type 0) → Call → Type 0
SlotsMoved R c = BothTell R c.before.slots c.after.slots

-- the slots are now what these changes make of them
abbrev pub SlotsAre : (SlotsTold → SlotsTold) → Call → Type 0
SlotsAre change c = SlotsMoved (λ t u. u ≡ change t) c

-- the slots tell what they told
abbrev pub SlotsKept : Call → Type 0
SlotsKept c = c.after.slots ≡ c.before.slots

-- at each moment of the slots since the call began they were so related to what they were
abbrev pub SlotsPass : (SlotsTold → Moment → Type 0) → Call → Type 0
SlotsPass R c = SlotsMoved (λ t u. Since (R t) c.before.moments c.after.moments u) c

-- what the slots tell now is so
abbrev pub SlotsHold : (SlotsTold → Type 0) → Call → Type 0
SlotsHold P c = WhereTold P c.after.slots

-- ---- for the promises that a call succeeds

-- the desk told before, and this was so
abbrev pub DeskTold : (Told → Type 0) → Call → Type 0
DeskTold P c = IsTold P c.before.desk

-- no call of the desk has failed
pub record IsDeskCalm (c : Call) : Type 0 where
  pub reads : IsCalm c.before.read_faults c.after.read_faults
  pub writes : IsCalm c.before.write_faults c.after.write_faults

-- no call of the slots has failed
abbrev pub AreSlotsCalm : Call → Type 0
AreSlotsCalm c = IsCalm c.before.store_faults c.after.store_faults

-- ---- for the steps of a call

-- the same call with this desk before and after it
abbrev pub on_desk : Option Told → Option Told → Call → Call
on_desk old new c = record c { before = record c.before { desk = old }; after = record c.after { desk = new } }

-- the same call with these slots before and after it, and these moments before each
abbrev pub on_slots : Option SlotsTold → List Moment → Option SlotsTold → List Moment → Call → Call
on_slots old past new later c = record c { before = record c.before { slots = old; moments = past }; after = record c.after { slots = new; moments = later } }

-- the same call with this desk and these slots after it, and these moments before
abbrev pub ending_with : Option Told → Option SlotsTold → List Moment → Call → Call
ending_with desk slots later c = record c { after = record c.after { desk = desk; slots = slots; moments = later } }
