-- What is true of an instance and a proof where the check gives an answer, and what is printed then.
use Rattle.std.specs.Prelude.{◌≡◌, ℕ, ◌==◌, cond, ◌≤◌, List}
use Rattle.tspdef.specs.Instances.{Instance, IsTourOf, length_in}
use Rattle.certdef.specs.Accepted.{IsAcceptedText}
use Rattle.certdef.specs.Verdicts.{no}
use Rattle.certdef.specs.Bytes.{verdict}
use Rattle.certcheck.specs.declared.answer.Answer.{Answer}
use Rattle.certcheck.specs.declared.answer.Answer.TheVariants as answer
use Rattle.verification.specs.Texts.{verified_text, within_text, refused_text}
use Rattle.verification.specs.declared.statuses.VerifyStatus.{VerifyStatus}
use Rattle.verification.specs.declared.statuses.VerifyStatus.TheVariants as status

-- the proof is accepted with a length and a bound, which is no greater, and with no others, and no tour is shorter than the bound
pub record IsAcceptedWith (i : Instance) (proof : List ℕ) (l b : ℕ) : Type 0 where
  pub accepted : IsAcceptedText i proof l b
  pub only : (m c : ℕ) → IsAcceptedText i proof m c → (m ≡ l) × (c ≡ b)
  pub most : b ≤ l
  pub least : (tour : List ℕ) → IsTourOf i tour → b ≤ length_in i tour

-- the proof has this first refusal, and is accepted with no length
pub record IsRefusedWith (i : Instance) (proof : List ℕ) (k line : ℕ) : Type 0 where
  pub first : verdict i proof ≡ no k line
  pub never : (l b : ℕ) → ¬ IsAcceptedText i proof l b

abbrev pub IsRight : Instance → List ℕ → Answer → Type 0
IsRight i proof (answer.Yes l b) = IsAcceptedWith i proof l b
IsRight i proof (answer.No k line) = IsRefusedWith i proof k line

abbrev pub answer_text : Answer → List ℕ
answer_text (answer.Yes l b) = cond (b == l) (verified_text l) (within_text l b)
answer_text (answer.No k line) = refused_text k line

abbrev pub answer_status : Answer → VerifyStatus
answer_status (answer.Yes l b) = cond (b == l) status.Verified status.Within
answer_status (answer.No k line) = status.Refused
