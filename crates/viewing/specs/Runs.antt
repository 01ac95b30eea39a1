-- How a run of the viewer ends.
use Rattle.std.specs.Prelude.{◌≡◌, ℕ, ◌⊎◌, List, ◌++◌, take, Option}
use Rattle.ports.specs.Outside.{BothTell}
use Rattle.ports.specs.Desk.{Told}
use Rattle.tspdef.specs.Instances.{Instance}
use Rattle.tspinst.specs.Texts.{InstanceText}
use Rattle.verdict.specs.Bodies.{IsBodyText}
use Rattle.verification.specs.Headline.{BadInstance}
use Rattle.verification.specs.Counts.{IsTold}
use Rattle.verification.specs.Transfers.{Torn, read_told, instance_told, proof_told}
use Rattle.viewing.specs.Headline.{Drawn, Refused, Usage}
use Rattle.viewing.specs.Words.{Text, Paths, IsViewCall, paths_of}
use Rattle.viewing.specs.Saying.{HasTooMany}
use Rattle.viewing.specs.Readings.{text_told}
use Rattle.viewing.specs.Showing.{drawn_told}
use Rattle.viewing.specs.declared.statuses.ViewStatus.{ViewStatus}
use Rattle.viewing.specs.declared.statuses.ViewStatus.TheVariants as status

-- ---- of a call that names its paths

-- one of the three answers
abbrev pub IsAnswered : Paths → Told → Told → Type 0
IsAnswered paths t u = Drawn paths t u ⊎ Refused paths t u ⊎ BadInstance paths.instance t u

-- Nothing was printed or written. Nothing was done; or the instance was bound and a front of it taken; or it was read to its end, and
-- the text bound and a front of that taken.
abbrev pub IsSilent : Paths → Told → Told → Type 0
IsSilent paths t u = (u ≡ t)
    ⊎ ((count : ℕ) × (u ≡ instance_told paths.instance count t))
    ⊎ ((count : ℕ) × (u ≡ proof_told paths.text count (read_told paths.instance t)))

-- The picture's file could not be opened, or it took a front of the picture; nothing was printed.
pub record HalfDrawn (paths : Paths) (t u : Told) : Type 0 where
  pub whole : Told
  pub step : Drawn paths t whole
  pub picture : List ℕ
  pub of_it : whole.proof_out ≡ t.proof_out ++ picture
  pub others : (u ≡ text_told paths.text (read_told paths.instance t))
      ⊎ ((k : ℕ) × (u ≡ drawn_told paths.out (take k picture) (text_told paths.text (read_told paths.instance t))))

-- how it ends, by its status
abbrev pub Ends : Paths → ViewStatus → Told → Told → Type 0
Ends paths status.Drawn t u = Drawn paths t u
Ends paths status.Usage t u = ⊥
Ends paths status.BadInstance t u = BadInstance paths.instance t u
Ends paths status.Refused t u = Refused paths t u
Ends paths status.ReadFault t u = IsSilent paths t u
Ends paths status.WriteFault t u = Torn (IsAnswered paths) t u ⊎ HalfDrawn paths t u
Ends paths status.NoMemory t u = IsSilent paths t u

-- ---- of the program

-- the words of the command line, and what the desk told before and after
pub record Run : Type 0 where
  pub words : List Text
  pub before : Option Told
  pub after : Option Told

abbrev pub run_of : List Text → Option Told → Option Told → Run
run_of words before after = record { words = words; before = before; after = after }

-- the words are of the viewer's form, and the call ends so
abbrev pub IsCall : ViewStatus → Run → Type 0
IsCall s run = IsViewCall run.words × BothTell (Ends (paths_of run.words) s) run.before run.after

-- they are not, and the desk changes so
abbrev pub IsNoCall : (Told → Told → Type 0) → Run → Type 0
IsNoCall Changes run = ¬ IsViewCall run.words × BothTell Changes run.before run.after

-- how a run ends, by its status
abbrev pub EndsRun : ViewStatus → Run → Type 0
EndsRun status.Drawn run = IsCall status.Drawn run
EndsRun status.Usage run = IsNoCall Usage run
EndsRun status.BadInstance run = IsCall status.BadInstance run
EndsRun status.Refused run = IsCall status.Refused run
EndsRun status.ReadFault run = IsCall status.ReadFault run
EndsRun status.WriteFault run = IsCall status.WriteFault run ⊎ IsNoCall (Torn Usage) run
EndsRun status.NoMemory run = IsCall status.NoMemory run

-- Drawn or Refused, or want of memory
abbrev pub IsJudged : ViewStatus → Type 0
IsJudged s = (s ≡ status.Drawn) ⊎ (s ≡ status.Refused) ⊎ (s ≡ status.NoMemory)

-- Drawn, or want of memory
abbrev pub IsDrawn : ViewStatus → Type 0
IsDrawn s = (s ≡ status.Drawn) ⊎ (s ≡ status.NoMemory)

-- the text is a proof or a body for the instance, and has no more nodes than are drawn
abbrev pub IsDrawable : Instance → ℕ → ℕ → Told → Type 0
IsDrawable i l b t = InstanceText t.instance i × IsBodyText i t.proof_in l b × ¬ HasTooMany i t.proof_in

-- Words of another form are answered by the usage. A call on an instance's text is judged, and where the text is a proof or a body for
-- it, it is drawn.
pub record IsComplete (s : ViewStatus) (run : Run) : Type 0 where
  pub used : ¬ IsViewCall run.words → s ≡ status.Usage
  pub judged : (i : Instance) → IsViewCall run.words → IsTold (λ t. InstanceText t.instance i) run.before → IsJudged s
  pub drawn : (i : Instance) (l b : ℕ) → IsViewCall run.words → IsTold (IsDrawable i l b) run.before → IsDrawn s
