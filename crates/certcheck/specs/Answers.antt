-- What the verifier answers.
use Rattle.std.specs.Prelude.{◌≡◌, ℕ, ◌-◌, List, length, Result, Ok, Err}
use Rattle.ports.specs.Desk.{Told}
use Rattle.tspdef.specs.Instances.{Instance}
use Rattle.certdef.specs.Tests.{verifier}
use Rattle.certdef.specs.Verdicts.{Verdict, yes, no}
use Rattle.certdef.specs.Bytes.{Reading, reads, bytes_on, start}
use Rattle.certcheck.specs.declared.answer.Answer.{Answer}
use Rattle.certcheck.specs.declared.answer.Answer.TheVariants as answers
use Rattle.certcheck.specs.declared.answer.CheckError.{CheckError}
use Rattle.certcheck.specs.declared.answer.CheckError.TheVariants as errors
use Rattle.certcheck.specs.declared.answer.Trouble.{Trouble}
use Rattle.certcheck.specs.declared.answer.Trouble.TheVariants as troubles

abbrev pub verdict_of : Answer → Verdict
verdict_of (answers.Yes l b) = yes l b
verdict_of (answers.No k at) = no k at

abbrev pub IsYes : Answer → Type 0
IsYes (answers.Yes l b) = Unit {0}
IsYes (answers.No k at) = ⊥

-- the answer is the refusal, or that there is no memory
abbrev pub Tells : Trouble → Result Answer CheckError → Type 0
Tells troubles.NoMemory r = r ≡ Err errors.NoMemory
Tells (troubles.Refused k at) r = r ≡ Ok (answers.No k at)

-- how many bytes of the proof were taken
abbrev pub count_taken : Told → Told → ℕ
count_taken t u = length t.proof_in - length u.proof_in

-- no refusal stands in these first bytes of a text: the verifier reads on behind them
abbrev pub HasNoRefusal : Instance → List ℕ → Type 0
HasNoRefusal i bytes = (r : Reading) × (bytes_on (verifier i) (reads start) bytes ≡ reads r)
