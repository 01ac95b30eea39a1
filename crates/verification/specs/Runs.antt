-- How a run of the verifier ends.
use Rattle.std.specs.Prelude.{◌≡◌, ℕ, ◌==◌, cond, ◌⊎◌, List, Option}
use Rattle.clap.specs.Walk.{Text}
use Rattle.ports.specs.Outside.{BothTell}
use Rattle.ports.specs.Desk.{Told}
use Rattle.tspdef.specs.Instances.{Instance}
use Rattle.tspinst.specs.Texts.{InstanceText}
use Rattle.certdef.specs.Accepted.{IsAcceptedText}
use Rattle.tspwords.specs.Program.{IsVerifierCall}
use Rattle.verification.specs.Headline.{Verified, Within, Refused, BadInstance, Usage}
use Rattle.verification.specs.Counts.{IsTold}
use Rattle.verification.specs.Paths.{Paths, paths_of}
use Rattle.verification.specs.Transfers.{Torn, read_told, instance_told, proof_told}
use Rattle.verification.specs.declared.statuses.VerifyStatus.{VerifyStatus}
use Rattle.verification.specs.declared.statuses.VerifyStatus.TheVariants as status

-- ---- of a call that names its paths

-- one of the four answers
abbrev pub IsAnswered : Paths → Told → Told → Type 0
IsAnswered paths t u = Verified paths t u ⊎ Within paths t u ⊎ Refused paths t u ⊎ BadInstance paths.instance t u

-- Nothing was printed. Nothing was done; or the instance was bound and a front of it taken; or it was read to its end, and the
-- proof bound and a front of that taken.
abbrev pub IsSilent : Paths → Told → Told → Type 0
IsSilent paths t u = (u ≡ t)
    ⊎ ((count : ℕ) × (u ≡ instance_told paths.instance count t))
    ⊎ ((count : ℕ) × (u ≡ proof_told paths.proof count (read_told paths.instance t)))

-- how it ends, by its status
abbrev pub Ends : Paths → VerifyStatus → Told → Told → Type 0
Ends paths status.Verified t u = Verified paths t u
Ends paths status.Within t u = Within paths t u
Ends paths status.Refused t u = Refused paths t u
Ends paths status.BadInstance t u = BadInstance paths.instance t u
Ends paths status.Usage t u = ⊥
Ends paths status.ReadFault t u = IsSilent paths t u
Ends paths status.WriteFault t u = Torn (IsAnswered paths) t u
Ends paths status.NoMemory t u = IsSilent paths t u

-- ---- of the program of its own

-- the words of the command line, and what the desk told before and after
pub record Run : Type 0 where
  pub words : List Text
  pub before : Option Told
  pub after : Option Told

abbrev pub run_of : List Text → Option Told → Option Told → Run
run_of words before after = record { words = words; before = before; after = after }

-- the words are of the verifier's form, and the call ends so
abbrev pub IsCall : VerifyStatus → Run → Type 0
IsCall s run = IsVerifierCall run.words × BothTell (Ends (paths_of run.words) s) run.before run.after

-- they are not, and the desk changes so
abbrev pub IsNoCall : (Told → Told → Type 0) → Run → Type 0
IsNoCall Changes run = ¬ IsVerifierCall run.words × BothTell Changes run.before run.after

-- how a run ends, by its status
abbrev pub EndsRun : VerifyStatus → Run → Type 0
EndsRun status.Verified run = IsCall status.Verified run
EndsRun status.Within run = IsCall status.Within run
EndsRun status.Refused run = IsCall status.Refused run
EndsRun status.BadInstance run = IsCall status.BadInstance run
EndsRun status.Usage run = IsNoCall Usage run
EndsRun status.ReadFault run = IsCall status.ReadFault run
EndsRun status.WriteFault run = IsCall status.WriteFault run ⊎ IsNoCall (Torn Usage) run
EndsRun status.NoMemory run = BothTell (IsSilent (paths_of run.words)) run.before run.after

-- Verified, Within or Refused, or want of memory
abbrev pub IsJudged : VerifyStatus → Type 0
IsJudged s = (s ≡ status.Verified) ⊎ (s ≡ status.Within) ⊎ (s ≡ status.Refused) ⊎ (s ≡ status.NoMemory)

-- Verified where the bound is the length, else Within; or want of memory
abbrev pub IsVerified : ℕ → ℕ → VerifyStatus → Type 0
IsVerified l b s = (s ≡ cond (b == l) status.Verified status.Within) ⊎ (s ≡ status.NoMemory)

-- A call on an instance's text is judged, and where the proof is accepted for it, it is verified with the proof's length and bound.
pub record IsComplete (s : VerifyStatus) (run : Run) : Type 0 where
  pub judged : (i : Instance) → IsVerifierCall run.words → IsTold (λ t. InstanceText t.instance i) run.before → IsJudged s
  pub accepted : (i : Instance) (l b : ℕ) → IsVerifierCall run.words
      → IsTold (λ t. InstanceText t.instance i × IsAcceptedText i t.proof_in l b) run.before → IsVerified l b s
