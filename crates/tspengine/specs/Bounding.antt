-- How calls of `bound` and `checkbound` end.
use Rattle.std.specs.Prelude.{◌≡◌, ℕ, ◌⊎◌, List, ℤ, take}
use Rattle.clap.specs.Walk.{Text}
use Rattle.ports.specs.Desk.{with_outlet_path}
use Rattle.tspdef.specs.Instances.{Instance}
use Rattle.tspinst.specs.Texts.{InstanceText}
use Rattle.onetree.specs.Ascents.{AreRaised}
use Rattle.onetree.specs.Certificates.{IsBoundOf, IsAccepted, text, certificate_of}
use Rattle.onetree.specs.Answers.{Judges}
use Rattle.onetree.specs.declared.answer.Answer.{Answer}
use Rattle.onetree.specs.declared.answer.Answer.TheVariants as answers
use Rattle.tspwords.specs.Program.{IsBoundCall, IsCheckboundCall, instance_word, cert_word, steps_of}
use Rattle.verification.specs.Paths.{Paths}
use Rattle.verification.specs.Runs.{IsSilent}
use Rattle.tspengine.specs.Calls.{Call, DeskHad, DeskIs, DeskMoved, DeskTold, SlotsKept, IsDeskCalm}
use Rattle.tspengine.specs.Steps.{reads, prints, TearsWriting}
use Rattle.tspengine.specs.Readings.{Refuses, TornRefusal, Unread}
use Rattle.tspengine.specs.Bounds.{Bounded, Checked, BoundRefused, bound_text, checked_text, refused_text, takes}
use Rattle.tspengine.specs.declared.bounding.Raised.{Raised}
use Rattle.tspengine.specs.declared.statuses.Status.{Status}
use Rattle.tspengine.specs.declared.statuses.Status.TheVariants as status

-- ---- bound

-- so many steps raised the duals, and the line tells the greatest bound that they prove
pub record IsRaisedBy (i : Instance) (steps : ℕ) (r : Raised) : Type 0 where
  pub raised : AreRaised i steps r.duals.items
  pub bound : ℕ
  pub greatest : IsBoundOf i r.duals.items bound
  pub tells : r.line.items ≡ bound_text bound

-- WriteFault after the duals were raised: the outlet could not be bound, or it took a front of the certificate; of the text a front is
-- printed, and only after the whole certificate.
pub record TornBound (c : Call) : Type 0 where
  pub instance : Instance
  pub duals : List ℤ
  pub bound : ℕ
  pub bytes_read : DeskHad (λ t. InstanceText t.instance instance) c
  pub duals_are_raised : AreRaised instance (steps_of c.words) duals
  pub bound_is_greatest : IsBoundOf instance duals bound
  pub desk : DeskMoved (λ t u. TearsWriting (cert_word c.words) (text (certificate_of duals bound)) (bound_text bound) (reads (instance_word c.words) t) u) c
  pub slots : SlotsKept c

-- NoMemory once the instance was read: the outlet was bound, and took nothing.
pub record Unwritten (c : Call) : Type 0 where
  pub desk : DeskIs (λ t. with_outlet_path (cert_word c.words) (reads (instance_word c.words) t)) c
  pub slots : SlotsKept c

-- `bound` ends with one of these statuses, and so.
abbrev pub Bounds : Status → Call → Type 0
Bounds s c = ((s ≡ status.Bounded) × Bounded c)
    ⊎ ((s ≡ status.BadInstance) × Refuses c)
    ⊎ ((s ≡ status.ReadFault) × Unread c)
    ⊎ ((s ≡ status.WriteFault) × (TornRefusal c ⊎ TornBound c))
    ⊎ ((s ≡ status.NoMemory) × (Unread c ⊎ Unwritten c))

-- Where the bytes are an instance's text and nothing fails, it ends with Bounded, or for want of memory.
abbrev pub BoundCompletes : Status → Call → Type 0
BoundCompletes s c = (i : Instance) → IsBoundCall c.words → DeskTold (λ t. InstanceText t.instance i) c → IsDeskCalm c
    → (s ≡ status.Bounded) ⊎ (s ≡ status.NoMemory)

-- ---- checkbound

-- what is printed of an answer
abbrev pub answer_text : Answer → List ℕ
answer_text (answers.Yes b) = checked_text b
answer_text (answers.No k at) = refused_text k at

-- the status of an answer that is printed
abbrev pub answer_status : Answer → Status
answer_status (answers.Yes b) = status.Checked
answer_status (answers.No k at) = status.BoundRefused

-- the answer was printed, or not, or memory ran out before
abbrev pub IsSaid : Status → Answer → Type 0
IsSaid s a = (s ≡ answer_status a) ⊎ (s ≡ status.WriteFault) ⊎ (s ≡ status.NoMemory)

-- the paths of the instance and of the certificate
abbrev pub paths_of_bound : List Text → Paths
paths_of_bound words = record { instance = instance_word words; proof = cert_word words }

-- WriteFault after the certificate was judged: a front of the answer is printed.
pub record TornAnswer (c : Call) : Type 0 where
  pub instance : Instance
  pub answer : Answer
  pub front : ℕ
  pub bytes_read : DeskHad (λ t. InstanceText t.instance instance) c
  pub judged : DeskHad (λ t. Judges instance t.proof_in answer) c
  pub desk : DeskIs (λ t. prints (take front (answer_text answer)) (takes (cert_word c.words) (reads (instance_word c.words) t))) c
  pub slots : SlotsKept c

-- ReadFault or NoMemory: nothing was printed, and of the instance, or of the certificate once that was read, a front was taken.
pub record Unjudged (c : Call) : Type 0 where
  pub desk : DeskMoved (IsSilent (paths_of_bound c.words)) c
  pub slots : SlotsKept c

-- `checkbound` ends with one of these statuses, and so.
abbrev pub ChecksBound : Status → Call → Type 0
ChecksBound s c = ((s ≡ status.Checked) × Checked c)
    ⊎ ((s ≡ status.BoundRefused) × BoundRefused c)
    ⊎ ((s ≡ status.BadInstance) × Refuses c)
    ⊎ ((s ≡ status.ReadFault) × Unjudged c)
    ⊎ ((s ≡ status.WriteFault) × (TornRefusal c ⊎ TornAnswer c))
    ⊎ ((s ≡ status.NoMemory) × Unjudged c)

-- Where the bytes are an instance's text and nothing fails, it ends with Checked or BoundRefused, or for want of memory.
abbrev pub CheckboundCompletes : Status → Call → Type 0
CheckboundCompletes s c = (i : Instance) → IsCheckboundCall c.words → DeskTold (λ t. InstanceText t.instance i) c → IsDeskCalm c
    → (s ≡ status.Checked) ⊎ (s ≡ status.BoundRefused) ⊎ (s ≡ status.NoMemory)

-- Where the certificate is accepted for it as well, it ends with Checked, or for want of memory.
abbrev pub AcceptedBoundCompletes : Status → Call → Type 0
AcceptedBoundCompletes s c = (i : Instance) → (b : ℕ) → IsCheckboundCall c.words
    → DeskTold (λ t. InstanceText t.instance i × IsAccepted i t.proof_in b) c → IsDeskCalm c
    → (s ≡ status.Checked) ⊎ (s ≡ status.NoMemory)
