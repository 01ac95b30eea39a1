-- How a call of `replay` ends.
use Rattle.std.specs.Prelude.{◌≡◌, ℕ, ◌+◌, ◌≤◌, ◌⊎◌, List, [], ◌++◌, length, take, drop, Some, None, Ok}
use Rattle.clap.specs.Walk.{Text}
use Rattle.ports.specs.Desk.{Told, with_inlet_path}
use Rattle.ports.specs.declared.desk.Inlet.TheVariants as inlet
use Rattle.tspdef.specs.Instances.{Instance}
use Rattle.tspinst.specs.Texts.{InstanceText}
use Rattle.bossx.specs.Books.{Book}
use Rattle.bossx.specs.declared.events.Event.{Event}
use Rattle.tapeboss.specs.Frames.{IsFrame, heard}
use Rattle.tapeboss.specs.Tapes.{most_bytes, IsPlayedTape}
use Rattle.tapeboss.specs.declared.error.Fault.{Fault}
use Rattle.tspwords.specs.Program.{IsReplayCall, instance_word, tape_word, budget_of, grunts_of}
use Rattle.tspengine.specs.Calls.{Call, DeskHad, DeskMoved, DeskTold, SlotsKept, IsDeskCalm}
use Rattle.tspengine.specs.Steps.{reads, prints}
use Rattle.tspengine.specs.Playing.{IsFirstBook, AreLinesOf, IsPlayed}
use Rattle.tspengine.specs.Readings.{Refuses, TornRefusal, Unread}
use Rattle.tspengine.specs.declared.statuses.Status.{Status}
use Rattle.tspengine.specs.declared.statuses.Status.TheVariants as status

-- the inlet of proofs is bound once more, to the path of a tape, and these bytes are left
abbrev pub takes_tape : List ℕ → List ℕ → Told → Told
takes_tape path rest t = record t { proof_in = rest; proof_in_path = Some path; proof_in_binds = t.proof_in_binds + 1 }

-- the instance was read, and the tape too, of which these bytes are left; and this was printed
abbrev pub replay_told : List Text → (rest printed : List ℕ) → Told → Told
replay_told words rest printed t = prints printed (takes_tape (tape_word words) rest (reads (instance_word words) t))

-- The whole tape was played: just the lines of its events and of its end are printed.
pub record PlaysWhole (words : List Text) (start : Book) (t u : Told) : Type 0 where
  pub lines : List ℕ
  pub answered : IsPlayedTape start t.proof_in lines None
  pub desk : u ≡ replay_told words [] lines t

-- a list of whole frames, each an event for n cities and so many grunts
pub data AreEvents (n grunts : ℕ) : List ℕ → Type 0 where
  no_event : AreEvents n grunts []
  event_more : (frame rest : List ℕ) (e : Event) → IsFrame frame → heard n grunts (drop 4 frame) ≡ Ok e → AreEvents n grunts rest → AreEvents n grunts (frame ++ rest)

-- a tape of events, which is not too long
pub record IsGoodTape (n grunts : ℕ) (tape : List ℕ) : Type 0 where
  pub events : AreEvents n grunts tape
  pub few : length tape ≤ most_bytes

-- The tape has a fault: just the lines of the events before it, and that of the first fault, are printed.
pub record PlaysToFault (words : List Text) (start : Book) (t u : Told) : Type 0 where
  pub bytes : List ℕ
  pub rest : List ℕ
  pub lines : List ℕ
  pub fault : Fault × ℕ
  pub taken : t.proof_in ≡ bytes ++ rest
  pub answered : IsPlayedTape start t.proof_in lines (Some fault)
  pub is_bad : ¬ IsGoodTape start.instance.n start.grunts t.proof_in
  pub desk : u ≡ replay_told words rest lines t

-- It was broken off: a front of the lines is printed.
pub record PlaysFront (words : List Text) (start : Book) (t u : Told) : Type 0 where
  pub bytes : List ℕ
  pub rest : List ℕ
  pub lines : List ℕ
  pub printed : ℕ
  pub taken : t.proof_in ≡ bytes ++ rest
  pub answered : AreLinesOf start t.proof_in lines
  pub desk : u ≡ replay_told words rest (take printed lines) t

-- An instance was read, and a boss of its own answered to the tape, from the start with the opening tour of `solve` and no gap.
pub record ReplaysBy (Way : List Text → Book → Told → Told → Type 0) (c : Call) : Type 0 where
  pub instance : Instance
  pub start : Book
  pub bytes_read : DeskHad (λ t. InstanceText t.instance instance) c
  pub begins : IsFirstBook instance (budget_of c.words) (grunts_of c.words) start
  pub desk : DeskMoved (Way c.words start) c
  pub slots : SlotsKept c

abbrev pub Replayed : Call → Type 0
Replayed c = ReplaysBy PlaysWhole c

abbrev pub BadTape : Call → Type 0
BadTape c = ReplaysBy PlaysToFault c

abbrev pub BrokenOff : Call → Type 0
BrokenOff c = ReplaysBy PlaysFront c

-- It ends with one of these statuses, and so.
abbrev pub Replays : Status → Call → Type 0
Replays s c = ((s ≡ status.Replayed) × Replayed c)
    ⊎ ((s ≡ status.BadTape) × BadTape c)
    ⊎ ((s ≡ status.BadInstance) × Refuses c)
    ⊎ ((s ≡ status.ReadFault) × (Unread c ⊎ BrokenOff c))
    ⊎ ((s ≡ status.WriteFault) × (TornRefusal c ⊎ BrokenOff c))
    ⊎ ((s ≡ status.NoMemory) × (Unread c ⊎ BrokenOff c))

-- Where the bytes are an instance's text, the tape is a list of events with grunts of 1 to K, and nothing fails, it ends with Replayed, or for
-- want of memory.
abbrev pub ReplayCompletes : Status → Call → Type 0
ReplayCompletes s c = (i : Instance) → IsReplayCall c.words → DeskTold (λ t. InstanceText t.instance i × IsGoodTape i.n (grunts_of c.words) t.proof_in) c → IsDeskCalm c
    → (s ≡ status.Replayed) ⊎ (s ≡ status.NoMemory)

-- the inlet could not be bound, or it is, and the tape is played
abbrev pub IsReplay : Book → List ℕ → Status → Told → Told → Type 0
IsReplay start path s t u = ((s ≡ status.ReadFault) × (u ≡ t)) ⊎ IsPlayed start s (with_inlet_path inlet.Proof path t) u
