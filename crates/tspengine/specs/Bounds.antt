-- What `run` promises where it answers Bounded, Checked or BoundRefused: lower bounds of one-trees (Held and Karp 1970) and their
-- certificates.
use Rattle.std.specs.Prelude.{◌≡◌, ℕ, ◌+◌, ◌≤◌, List, [], ◌++◌, Some, codes, decimal, ℤ}
use Rattle.ports.specs.Desk.{Told}
use Rattle.tspdef.specs.Instances.{Instance, IsTourOf, length_in}
use Rattle.tspinst.specs.Texts.{InstanceText}
use Rattle.onetree.specs.Ascents.{AreRaised}
use Rattle.onetree.specs.Certificates.{IsBoundOf, IsAccepted, IsRefused, text, certificate_of}
use Rattle.tspwords.specs.Program.{instance_word, cert_word, steps_of}
use Rattle.tspengine.specs.Calls.{Call, DeskHad, DeskIs, SlotsKept}
use Rattle.tspengine.specs.Steps.{reads, writes, prints}

-- the bound that is proved
abbrev pub bound_text : ℕ → List ℕ
bound_text b = codes "BOUND " ++ decimal b ++ codes "\n"

-- the bound of an accepted certificate
abbrev pub checked_text : ℕ → List ℕ
checked_text b = codes "CHECKED " ++ decimal b ++ codes "\n"

-- the first refusal of a certificate, and its line
abbrev pub refused_text : ℕ → ℕ → List ℕ
refused_text refusal line = codes "REFUSED " ++ decimal refusal ++ codes " " ++ decimal line ++ codes "\n"

-- the inlet of proofs is bound once more, to a path, and read to its end
abbrev pub takes : List ℕ → Told → Told
takes path t = record t { proof_in = []; proof_in_path = Some path; proof_in_binds = t.proof_in_binds + 1 }

-- `bound` answers Bounded: no tour of the instance is shorter than the printed bound, and a certificate of that is written. The bound
-- is the greatest that the certificate's duals prove, which so many steps as the words say raised from 0.
pub record Bounded (c : Call) : Type 0 where
  pub instance : Instance
  pub duals : List ℤ
  pub bound : ℕ
  pub bytes_read : DeskHad (λ t. InstanceText t.instance instance) c
  pub duals_are_raised : AreRaised instance (steps_of c.words) duals
  pub bound_is_greatest : IsBoundOf instance duals bound
  pub no_tour_is_shorter : (tour : List ℕ) → IsTourOf instance tour → bound ≤ length_in instance tour
  pub certificate_is_accepted : IsAccepted instance (text (certificate_of duals bound)) bound
  pub desk : DeskIs (λ t. prints (bound_text bound) (writes (cert_word c.words) (text (certificate_of duals bound)) (reads (instance_word c.words) t))) c
  pub slots : SlotsKept c

-- `checkbound` answers Checked: no tour of the instance is shorter than the printed bound. The certificate, read to its end, is accepted
-- with it and with no other.
pub record Checked (c : Call) : Type 0 where
  pub instance : Instance
  pub bound : ℕ
  pub bytes_read : DeskHad (λ t. InstanceText t.instance instance) c
  pub certificate_is_accepted : DeskHad (λ t. IsAccepted instance t.proof_in bound) c
  pub accepted_with_no_other : DeskHad (λ t. (other : ℕ) → IsAccepted instance t.proof_in other → other ≡ bound) c
  pub no_tour_is_shorter : (tour : List ℕ) → IsTourOf instance tour → bound ≤ length_in instance tour
  pub desk : DeskIs (λ t. prints (checked_text bound) (takes (cert_word c.words) (reads (instance_word c.words) t))) c
  pub slots : SlotsKept c

-- `checkbound` answers BoundRefused: the bytes, read to their end, are accepted with no bound. Their first refusal and its line, which
-- are the only ones, are printed.
pub record BoundRefused (c : Call) : Type 0 where
  pub instance : Instance
  pub refusal : ℕ
  pub line : ℕ
  pub bytes_read : DeskHad (λ t. InstanceText t.instance instance) c
  pub first_refusal : DeskHad (λ t. IsRefused instance t.proof_in refusal line) c
  pub refused_with_no_other : DeskHad (λ t. (k at : ℕ) → IsRefused instance t.proof_in k at → (k ≡ refusal) × (at ≡ line)) c
  pub accepted_with_no_bound : DeskHad (λ t. (bound : ℕ) → ¬ IsAccepted instance t.proof_in bound) c
  pub desk : DeskIs (λ t. prints (refused_text refusal line) (takes (cert_word c.words) (reads (instance_word c.words) t))) c
  pub slots : SlotsKept c
