-- Tapes: lists of frames, each an event that the boss answers in its turn, up to the end or the first fault.
use Rattle.std.specs.Prelude.{◌≡◌, ℕ, ◌+◌, ◌-◌, ◌^◌, ◌<◌, ◌≤◌, List, [], ◌++◌, length, take, drop, Option, Some, None, Ok, Err}
use Rattle.bossx.specs.declared.events.Event.{Event}
use Rattle.bossx.specs.declared.events.Reply.{Reply}
use Rattle.bossx.specs.Books.{Book, best_length}
use Rattle.bossx.specs.Steps.{Step, count_open}
use Rattle.tapeboss.specs.Frames.{IsSize, IsFrame, IsBegun, word_of, heard, number_of}
use Rattle.tapeboss.specs.Replies.{reply_line, end_line, fault_line}
use Rattle.tapeboss.specs.declared.error.Fault.{Fault}
use Rattle.tapeboss.specs.declared.error.Fault.TheVariants.{BadLength, Truncated, TooLong}

-- the most bytes of a tape
abbrev pub most_bytes : ℕ
most_bytes = 2 ^ 60

-- what a frame is heard as, by the boss that has this book
abbrev pub IsHeard : Book → List ℕ → Event → Type 0
IsHeard b frame e = heard b.instance.n b.grunts (drop 4 frame) ≡ Ok e

-- From the book at the start, so many frames, which are these bytes, are answered with these lines, and leave a book: each frame is an
-- event, and the answer is the boss's to it.
pub data Plays (start : Book) : (frames : ℕ) → (bytes lines : List ℕ) → Book → Type 0 where
  none : Plays start 0 [] [] start
  one_more : (k : ℕ) (bytes lines frame : List ℕ) (b new : Book) (e : Event) (r : Reply) → Plays start k bytes lines b
      → IsFrame frame → IsHeard b frame e → Step b e r new → Plays start (k + 1) (bytes ++ frame) (lines ++ reply_line r) new

-- The first fault of what stands behind the first so many bytes of a tape, which are whole frames. A frame is judged once it is whole; its
-- length before that.
pub data IsFault (b : Book) (before : ℕ) : List ℕ → Fault → Type 0 where
  bad_length : (rest : List ℕ) → 4 ≤ length rest → before + 4 ≤ most_bytes → ¬ IsSize (word_of rest) → IsFault b before rest BadLength
  truncated : (rest : List ℕ) → 0 < length rest → IsBegun rest → before + length rest ≤ most_bytes → IsFault b before rest Truncated
  bad_frame : (frame more : List ℕ) (f : Fault) → IsFrame frame → before + length frame ≤ most_bytes → heard b.instance.n b.grunts (drop 4 frame) ≡ Err f
      → IsFault b before (frame ++ more) f
  too_long : (rest : List ℕ) → IsBegun (take (most_bytes - before) rest) → most_bytes < before + length rest → IsFault b before rest TooLong

-- what a book counts at the end of a tape
abbrev pub last_line : Book → List ℕ
last_line b = end_line b.settled (count_open b) (best_length b)

-- A whole tape from a book at the start, and the lines that are answered: with no fault, or with the first one and its frame, from 1 on.
pub data IsPlayedTape (start : Book) : (tape lines : List ℕ) → Option (Fault × ℕ) → Type 0 where
  ends : (k : ℕ) (tape lines : List ℕ) (b : Book) → Plays start k tape lines b → length tape ≤ most_bytes → IsPlayedTape start tape (lines ++ last_line b) None
  stops : (k : ℕ) (front rest lines : List ℕ) (b : Book) (f : Fault) → Plays start k front lines b → IsFault b (length front) rest f
      → IsPlayedTape start (front ++ rest) (lines ++ fault_line (number_of f) (k + 1)) (Some (f, k + 1))

-- ---- a tape that comes in pieces

-- what contracts see of a tape that is played: how many frames were answered, how many bytes came, the frame that is begun, and the book
pub record Playing : Type 0 where
  pub frames : ℕ
  pub read : ℕ
  pub begun : List ℕ
  pub book : Book

-- from the book at the start, these bytes came so far, and these lines were answered
pub record HasPlayed (start : Book) (fed lines : List ℕ) (t : Playing) : Type 0 where
  pub front : List ℕ
  pub plays : Plays start t.frames front lines t.book
  pub fed_is : fed ≡ front ++ t.begun
  pub begun : IsBegun t.begun
  pub read : t.read ≡ length fed
  pub few : length fed ≤ most_bytes

-- whatever came so far, with these bytes more these lines more are answered, and nothing is wrong
abbrev pub GoesOn : Playing → (fed lines : List ℕ) → Playing → Type 0
GoesOn old fed lines new = (start : Book) (before said : List ℕ) → HasPlayed start before said old → HasPlayed start (before ++ fed) (said ++ lines) new

-- whatever came so far, a tape that goes on with these bytes, and with anything behind them, is answered with these lines more
abbrev pub StopsAt : Playing → (fed lines : List ℕ) → Fault → ℕ → Type 0
StopsAt old fed lines f k = (start : Book) (before said more : List ℕ) → HasPlayed start before said old
    → IsPlayedTape start ((before ++ fed) ++ more) (said ++ lines) (Some (f, k))

-- whatever came so far, if it is the whole tape it is answered with these lines more
abbrev pub EndsAs : Playing → (lines : List ℕ) → Option (Fault × ℕ) → Type 0
EndsAs old lines ending = (start : Book) (tape said : List ℕ) → HasPlayed start tape said old → IsPlayedTape start tape (said ++ lines) ending

-- lines were put behind those that were there
abbrev pub Puts : List ℕ → List ℕ → (List ℕ → Type 0) → Type 0
Puts old new P = (lines : List ℕ) × (new ≡ old ++ lines) × P lines
