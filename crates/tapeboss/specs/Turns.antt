-- One frame at a time.
use Rattle.std.specs.Prelude.{◌≡◌, ℕ, ◌+◌, ◌≤◌, ◌⊎◌, List, ◌++◌, length, drop, Err}
use Rattle.bossx.specs.declared.events.Event.{Event}
use Rattle.bossx.specs.declared.events.Reply.{Reply}
use Rattle.bossx.specs.Books.{Book}
use Rattle.bossx.specs.Steps.{Step}
use Rattle.tapeboss.specs.Frames.{IsSize, word_of, heard, number_of}
use Rattle.tapeboss.specs.Replies.{reply_line, fault_line}
use Rattle.tapeboss.specs.Tapes.{IsHeard}
use Rattle.tapeboss.specs.declared.error.Fault.{Fault}
use Rattle.tapeboss.specs.declared.error.Fault.TheVariants.{BadLength}

-- so many bytes behind the begin of a frame end its length, or the frame, at most
abbrev pub IsRoom : List ℕ → ℕ → Type 0
IsRoom begun count = (length begun + count ≤ 4) ⊎ ((4 ≤ length begun) × (length begun + count ≤ 4 + word_of begun))

-- nothing is wrong with the length, and the frame is whole
pub record IsLongEnough (bytes : List ℕ) : Type 0 where
  pub header : 4 ≤ length bytes
  pub size : IsSize (word_of bytes)
  pub whole : 4 + word_of bytes ≤ length bytes

-- the frame is an event, which is answered with this line
pub record IsAnswered (b : Book) (frame lines : List ℕ) (new : Book) : Type 0 where
  pub event : Event
  pub reply : Reply
  pub is_heard : IsHeard b frame event
  pub step : Step b event reply new
  pub line : lines ≡ reply_line reply

-- the frame is no event, and its fault is put
pub record IsToldAs (b : Book) (bytes : List ℕ) (frame : ℕ) (out new : List ℕ) (f : Fault) (k : ℕ) : Type 0 where
  pub fault : heard b.instance.n b.grunts (drop 4 bytes) ≡ Err f
  pub at : k ≡ frame
  pub put : new ≡ out ++ fault_line (number_of f) frame

-- a fault of the length
pub record IsBadLength (bytes : List ℕ) (f : Fault) : Type 0 where
  pub header : 4 ≤ length bytes
  pub size : ¬ IsSize (word_of bytes)
  pub fault : f ≡ BadLength

-- what is wrong with a frame: its length, or, once it is whole, what it says
abbrev pub FaultIn : Book → List ℕ → Fault → Type 0
FaultIn b bytes f = IsBadLength bytes f ⊎ (IsLongEnough bytes × (heard b.instance.n b.grunts (drop 4 bytes) ≡ Err f))

pub record IsToldFault (b : Book) (bytes : List ℕ) (frame : ℕ) (out new : List ℕ) (f : Fault) (k : ℕ) : Type 0 where
  pub fault : FaultIn b bytes f
  pub at : k ≡ frame
  pub put : new ≡ out ++ fault_line (number_of f) frame
