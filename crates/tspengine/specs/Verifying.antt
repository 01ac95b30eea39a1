-- How a call of `verify` ends: as the verifier does.
use Rattle.std.specs.Prelude.{◌≡◌, ℕ, ◌==◌, cond, ◌⊎◌, List}
use Rattle.clap.specs.Walk.{Text}
use Rattle.tspdef.specs.Instances.{Instance}
use Rattle.tspinst.specs.Texts.{InstanceText}
use Rattle.certdef.specs.Accepted.{IsAcceptedText}
use Rattle.tspwords.specs.Program.{IsVerifyCall, instance_word, proof_word}
use Rattle.verification.specs.Headline.{Verified, Within, Refused, BadInstance}
use Rattle.verification.specs.Paths.{Paths}
use Rattle.verification.specs.Runs.{IsAnswered, IsSilent}
use Rattle.verification.specs.Transfers.{Torn}
use Rattle.tspengine.specs.Calls.{Call, DeskMoved, DeskTold, SlotsKept, IsDeskCalm}
use Rattle.tspengine.specs.declared.statuses.Status.{Status}
use Rattle.tspengine.specs.declared.statuses.Status.TheVariants as status

-- the paths of the instance and of the proof
abbrev pub paths_of : List Text → Paths
paths_of words = record { instance = instance_word words; proof = proof_word words }

-- It ends with one of these statuses, and so; the slots are left.
pub record Verifies (s : Status) (c : Call) : Type 0 where
  pub desk : ((s ≡ status.Verified) × DeskMoved (Verified (paths_of c.words)) c)
      ⊎ ((s ≡ status.VerifiedWithin) × DeskMoved (Within (paths_of c.words)) c)
      ⊎ ((s ≡ status.Refused) × DeskMoved (Refused (paths_of c.words)) c)
      ⊎ ((s ≡ status.BadInstance) × DeskMoved (BadInstance (instance_word c.words)) c)
      ⊎ ((s ≡ status.ReadFault) × DeskMoved (IsSilent (paths_of c.words)) c)
      ⊎ ((s ≡ status.WriteFault) × DeskMoved (Torn (IsAnswered (paths_of c.words))) c)
      ⊎ ((s ≡ status.NoMemory) × DeskMoved (IsSilent (paths_of c.words)) c)
  pub slots : SlotsKept c

-- Where the bytes are an instance's text and nothing fails, it ends with Verified, VerifiedWithin or Refused, or for want of memory.
abbrev pub VerifyCompletes : Status → Call → Type 0
VerifyCompletes s c = (i : Instance) → IsVerifyCall c.words → DeskTold (λ t. InstanceText t.instance i) c → IsDeskCalm c
    → (s ≡ status.Verified) ⊎ (s ≡ status.VerifiedWithin) ⊎ (s ≡ status.Refused) ⊎ (s ≡ status.NoMemory)

-- Where the proof is accepted for it as well, it ends with Verified where the bound is the length, else with VerifiedWithin; or for
-- want of memory.
abbrev pub AcceptedCompletes : Status → Call → Type 0
AcceptedCompletes s c = (i : Instance) → (l b : ℕ) → IsVerifyCall c.words
    → DeskTold (λ t. InstanceText t.instance i × IsAcceptedText i t.proof_in l b) c → IsDeskCalm c
    → (s ≡ cond (b == l) status.Verified status.VerifiedWithin) ⊎ (s ≡ status.NoMemory)
