-- A tape that is played from an inlet: what is taken and what is printed.
use Rattle.std.specs.Prelude.{◌≡◌, ℕ, ◌<◌, ◌⊎◌, List, [], ◌++◌, length, take, Option, Some, None}
use Rattle.ports.specs.Outside.{BothTell}
use Rattle.ports.specs.Desk.{Told}
use Rattle.tspdef.specs.Instances.{Instance}
use Rattle.treebook.specs.Tables.{fresh}
use Rattle.treebook.specs.Tree as trees
use Rattle.bossx.specs.Books.{Book}
use Rattle.bossx.specs.Kept.{IsStart}
use Rattle.opening.specs.Openings.{IsOpeningTour}
use Rattle.tapeboss.specs.Tapes.{Plays, IsPlayedTape, Playing, HasPlayed, GoesOn}
use Rattle.tapeboss.specs.declared.error.Fault.{Fault}
use Rattle.tspengine.specs.declared.playing.Turn.{Turn}
use Rattle.tspengine.specs.declared.playing.Turn.TheVariants as turn
use Rattle.tspengine.specs.declared.statuses.Status.{Status}
use Rattle.tspengine.specs.declared.statuses.Status.TheVariants as status

-- the tree at the start is one open node
abbrev pub first_table : Instance → trees.Table
first_table i = record { n = i.n; fixed = i.fixed; nodes = fresh; room = 0 }

-- A book before its first event, for a budget and so many grunts: one open node, the opening tour of `solve`, and no gap.
pub record IsFirstBook (i : Instance) (budget grunts : ℕ) (b : Book) : Type 0 where
  pub tour : List ℕ
  pub is_opening : IsOpeningTour i tour
  pub start : IsStart i (first_table i) tour budget grunts 0 b

-- Lines that a boss answers to a tape: to whole frames of a front of it, or to all of it.
abbrev pub AreLinesOf : Book → (tape lines : List ℕ) → Type 0
AreLinesOf start tape lines = ((k : ℕ) × (front : List ℕ) × (rest : List ℕ) × (b : Book) × (tape ≡ front ++ rest) × Plays start k front lines b)
    ⊎ ((ending : Option (Fault × ℕ)) × IsPlayedTape start tape lines ending)

-- of the tape these bytes more are taken, and these lines more are printed
pub record Goes (bytes lines : List ℕ) (t u : Told) : Type 0 where
  pub taken : t.proof_in ≡ bytes ++ u.proof_in
  pub others : u ≡ record t { proof_in = u.proof_in; text = t.text ++ lines }

-- ---- the end of a tape of which some bytes came before, to which some lines were printed

-- it is played to its end
pub record EndsWhole (start : Book) (fed said : List ℕ) (t u : Told) : Type 0 where
  pub lines : List ℕ
  pub played : IsPlayedTape start (fed ++ t.proof_in) (said ++ lines) None
  pub goes : Goes t.proof_in lines t u

-- or to its first fault
pub record EndsAtFault (start : Book) (fed said : List ℕ) (t u : Told) : Type 0 where
  pub bytes : List ℕ
  pub lines : List ℕ
  pub fault : Fault × ℕ
  pub played : IsPlayedTape start (fed ++ t.proof_in) (said ++ lines) (Some fault)
  pub goes : Goes bytes lines t u

-- or broken off: a front of lines that are answered is printed
pub record BreaksOff (start : Book) (fed said : List ℕ) (t u : Told) : Type 0 where
  pub bytes : List ℕ
  pub lines : List ℕ
  pub printed : ℕ
  pub answered : AreLinesOf start (fed ++ t.proof_in) (said ++ lines)
  pub goes : Goes bytes (take printed lines) t u

-- by the status
abbrev pub EndsSo : Book → (fed said : List ℕ) → Status → Told → Told → Type 0
EndsSo start fed said s t u = ((s ≡ status.Replayed) × EndsWhole start fed said t u)
    ⊎ ((s ≡ status.BadTape) × EndsAtFault start fed said t u)
    ⊎ (((s ≡ status.ReadFault) ⊎ (s ≡ status.WriteFault) ⊎ (s ≡ status.NoMemory)) × BreaksOff start fed said t u)

-- a whole tape
abbrev pub IsPlayed : Book → Status → Told → Told → Type 0
IsPlayed start s t u = EndsSo start [] [] s t u

-- whatever came before
abbrev pub IsEndOf : Playing → Status → Told → Told → Type 0
IsEndOf tape s t u = (start : Book) (fed said : List ℕ) → HasPlayed start fed said tape → EndsSo start fed said s t u

-- ---- a piece

-- some bytes more are taken, and answered
pub record GoesFurther (old new : Playing) (a b : Option Told) : Type 0 where
  pub bytes : List ℕ
  pub lines : List ℕ
  pub some : 0 < length bytes
  pub on : GoesOn old bytes lines new
  pub desk : BothTell (Goes bytes lines) a b

abbrev pub IsTurn : Playing → Turn → Option Told → Option Told → Type 0
IsTurn tape (turn.On new) a b = GoesFurther tape new a b
IsTurn tape (turn.Ended s) a b = BothTell (IsEndOf tape s) a b

-- ---- the statuses

abbrev pub IsPlayStatus : Status → Type 0
IsPlayStatus s = (s ≡ status.Replayed) ⊎ (s ≡ status.BadTape) ⊎ (s ≡ status.ReadFault) ⊎ (s ≡ status.WriteFault) ⊎ (s ≡ status.NoMemory)

abbrev pub IsPlayTurn : Turn → Type 0
IsPlayTurn (turn.On new) = Unit {0}
IsPlayTurn (turn.Ended s) = IsPlayStatus s
