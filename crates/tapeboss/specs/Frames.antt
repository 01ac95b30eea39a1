-- The frames of a tape, and the event that each is.
use Rattle.std.specs.Prelude.{◌≡◌, ℕ, ◌+◌, ◌^◌, ◌<◌, ◌≤◌, ◌⊎◌, ◌==◌, ◌&&◌, nat_le, if◌then◌else◌, List, [], ◌∷◌, length, take, drop, Option, Some, None, Result, Ok, Err}
use Rattle.std.specs.Int.{w32, from_be_bytes}
use Rattle.pricer.specs.declared.closing.Report.{Report}
use Rattle.bossx.specs.declared.brought.Brought.TheVariants.{Plain}
use Rattle.bossx.specs.declared.events.Event.{Event}
use Rattle.bossx.specs.declared.events.Event.TheVariants as event
use Rattle.tapeboss.specs.Messages.{report_in, tour_in}
use Rattle.tapeboss.specs.declared.error.Fault.{Fault}
use Rattle.tapeboss.specs.declared.error.Fault.TheVariants.{BadLength, BadKind, BadText, Truncated, BadGrunt, TooLong}
use Rattle.tapeboss.specs.declared.error.FrameError.{FrameError}
use Rattle.tapeboss.specs.declared.error.FrameError.TheVariants as errors

abbrev pub number_of : Fault → ℕ
number_of BadLength = 1
number_of BadKind = 2
number_of BadText = 3
number_of Truncated = 4
number_of BadGrunt = 5
number_of TooLong = 6

-- the number of 32 bits that the first four bytes are, the greatest byte first
abbrev pub word_of : List ℕ → ℕ
word_of bytes = from_be_bytes w32 (take 4 bytes)

-- how many bytes a frame may have behind its length
abbrev pub IsSize : ℕ → Type 0
IsSize m = (1 ≤ m) × (m ≤ 2 ^ 24)

-- four bytes of length, and that many bytes
pub record IsFrame (bytes : List ℕ) : Type 0 where
  pub header : 4 ≤ length bytes
  pub size : IsSize (word_of bytes)
  pub whole : length bytes ≡ 4 + word_of bytes

-- the length is whole, and more bytes are to come
pub record IsOpenFrame (bytes : List ℕ) : Type 0 where
  pub header : 4 ≤ length bytes
  pub size : IsSize (word_of bytes)
  pub left : length bytes < 4 + word_of bytes

-- the begin of a frame, in which nothing is wrong so far; it may be empty
abbrev pub IsBegun : List ℕ → Type 0
IsBegun bytes = (length bytes < 4) ⊎ IsOpenFrame bytes

-- ---- the event that the bytes behind a length are, for n cities and so many grunts, or their first fault

abbrev pub with_grunt : ℕ → (ℕ → Event) → List ℕ → Result Event Fault
with_grunt grunts call args =
    if length args == 4 then (if nat_le 1 (word_of args) && nat_le (word_of args) grunts then Ok (call (word_of args)) else Err BadGrunt) else Err BadKind

abbrev pub with_lease : List ℕ → Result Event Fault
with_lease args = if length args == 4 then Ok (event.Expire (word_of args)) else Err BadKind

abbrev pub told_report : ℕ → Option Report → Result Event Fault
told_report lease None = Err BadText
told_report lease (Some r) = Ok (event.Report lease (Plain r))

abbrev pub with_report : ℕ → List ℕ → Result Event Fault
with_report n args = if nat_le 4 (length args) then told_report (word_of args) (report_in n (drop 4 args)) else Err BadKind

abbrev pub told_tour : Option (List ℕ) → Result Event Fault
told_tour None = Err BadText
told_tour (Some t) = Ok (event.Offer t)

abbrev pub by_kind : ℕ → ℕ → ℕ → List ℕ → Result Event Fault
by_kind n grunts kind args =
    if kind == 1 then with_grunt grunts event.Ask args else
    if kind == 2 then with_report n args else
    if kind == 3 then with_grunt grunts event.Gone args else
    if kind == 4 then with_lease args else
    if kind == 5 then told_tour (tour_in n args) else
    Err BadKind

abbrev pub heard : ℕ → ℕ → List ℕ → Result Event Fault
heard n grunts [] = Err BadKind
heard n grunts (kind ∷ args) = by_kind n grunts kind args

-- what was answered is what is heard, unless memory ran out
abbrev pub Hears : Result Event FrameError → Result Event Fault → Type 0
Hears (Ok e) q = q ≡ Ok e
Hears (Err errors.NoMemory) q = Unit {0}
Hears (Err (errors.Bad f)) q = q ≡ Err f

-- the grunt that four bytes name, or the first fault
abbrev pub GruntIs : ℕ → List ℕ → Result ℕ Fault → Type 0
GruntIs grunts args (Ok g) = (length args ≡ 4) × (g ≡ word_of args) × (1 ≤ g) × (g ≤ grunts)
GruntIs grunts args (Err f) = (call : ℕ → Event) → with_grunt grunts call args ≡ Err f
