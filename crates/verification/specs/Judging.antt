-- What the second step does: it reads a proof for an instance and prints the answer.
use Rattle.std.specs.Prelude.{◌≡◌, ℕ, ◌<◌, ◌⊎◌, List, [], drop}
use Rattle.ports.specs.Desk.{Told, Adds}
use Rattle.ports.specs.declared.desk.Outlet.TheVariants as outlet
use Rattle.tspdef.specs.Instances.{Instance}
use Rattle.certcheck.specs.declared.answer.Answer.{Answer}
use Rattle.certcheck.specs.declared.answer.Answer.TheVariants as answer
use Rattle.certcheck.specs.Answers.{IsYes}
use Rattle.verification.specs.Transfers.{TouchesProof, Torn, proof_told}
use Rattle.verification.specs.Answers.{IsRight, answer_text, answer_status}
use Rattle.verification.specs.declared.statuses.VerifyStatus.{VerifyStatus}
use Rattle.verification.specs.declared.statuses.VerifyStatus.TheVariants as status

-- the answer was printed, after a yes with nothing left of the proof
pub record GivesAnswer (i : Instance) (word : List ℕ) (a : Answer) (t u : Told) : Type 0 where
  pub right : IsRight i t.proof_in a
  pub count : ℕ
  pub whole : IsYes a → drop count t.proof_in ≡ []
  pub others : Adds outlet.Text (answer_text a) (proof_told word count t) u

-- how the step ends, by its status
abbrev pub Judges : Instance → List ℕ → VerifyStatus → Told → Told → Type 0
Judges i word status.Verified t u = (l : ℕ) × GivesAnswer i word (answer.Yes l l) t u
Judges i word status.Within t u = (l : ℕ) × (b : ℕ) × (b < l) × GivesAnswer i word (answer.Yes l b) t u
Judges i word status.Usage t u = ⊥
Judges i word status.BadInstance t u = ⊥
Judges i word status.Refused t u = (k : ℕ) × (line : ℕ) × GivesAnswer i word (answer.No k line) t u
Judges i word status.ReadFault t u = TouchesProof word t u
Judges i word status.WriteFault t u = (a : Answer) × Torn (GivesAnswer i word a) t u
Judges i word status.NoMemory t u = TouchesProof word t u

-- the answer was printed, or not, or memory ran out before
abbrev pub IsSayStatus : VerifyStatus → Answer → Type 0
IsSayStatus s a = (s ≡ answer_status a) ⊎ (s ≡ status.WriteFault) ⊎ (s ≡ status.NoMemory)
