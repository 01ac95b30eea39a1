-- What each answer of a verifier says, of what its desk told before the run and after it. `instance` and `proof_in` are the
-- bytes that are left to read of the two files, `text` is the standard output, and each file has the path that it was last
-- bound to and how often it was bound. `record before { .. }` is the desk before with these changes and no other.
use Rattle.std.specs.Prelude.{◌≡◌, ℕ, ◌+◌, ◌^◌, ◌<◌, ◌≤◌, ◌⊎◌, List, [], ◌++◌, drop, Some, Err}
use Rattle.ports.specs.Desk.{Told}
use Rattle.tspdef.specs.Instances.{Instance, IsTourOf, length_in}
use Rattle.tspinst.specs.Texts.{InstanceText, outcome}
use Rattle.tspinst.specs.declared.refusals.Refusal.{Refusal}
use Rattle.tspinst.specs.declared.refusals.Refusal.TheVariants as refusals
use Rattle.certdef.specs.Accepted.{IsAcceptedText}
use Rattle.certdef.specs.Verdicts.{no}
use Rattle.certdef.specs.Bytes.{verdict}
use Rattle.verification.specs.Paths.{Paths}
use Rattle.verification.specs.Texts.{instance_text, verified_text, within_text, refused_text, usage_text}

-- No tour of the instance is shorter than the length that is printed: the proof, read to its end, is accepted with it as the length
-- of its tour and as its bound, and with no other numbers.
pub record Verified (paths : Paths) (before after : Told) : Type 0 where
  pub instance : Instance
  pub length : ℕ
  pub instance_text : InstanceText before.instance instance
  pub proof_text : IsAcceptedText instance before.proof_in length length
  pub accepted_with_no_other : (other_length other_bound : ℕ) → IsAcceptedText instance before.proof_in other_length other_bound
      → (other_length ≡ length) × (other_bound ≡ length)
  pub no_tour_is_shorter : (tour : List ℕ) → IsTourOf instance tour → length ≤ length_in instance tour
  pub desk : after ≡ record before {
    instance = [];
    instance_path = Some paths.instance;
    instance_binds = before.instance_binds + 1;
    proof_in = [];
    proof_in_path = Some paths.proof;
    proof_in_binds = before.proof_in_binds + 1;
    text = before.text ++ verified_text length;
  }

-- No tour of the instance is shorter than the bound that is printed, which is below the length of the proof's tour: the proof, read
-- to its end, is accepted with both, and with no other numbers.
pub record Within (paths : Paths) (before after : Told) : Type 0 where
  pub instance : Instance
  pub length : ℕ
  pub bound : ℕ
  pub below : bound < length
  pub instance_text : InstanceText before.instance instance
  pub proof_text : IsAcceptedText instance before.proof_in length bound
  pub accepted_with_no_other : (other_length other_bound : ℕ) → IsAcceptedText instance before.proof_in other_length other_bound
      → (other_length ≡ length) × (other_bound ≡ bound)
  pub no_tour_is_shorter : (tour : List ℕ) → IsTourOf instance tour → bound ≤ length_in instance tour
  pub desk : after ≡ record before {
    instance = [];
    instance_path = Some paths.instance;
    instance_binds = before.instance_binds + 1;
    proof_in = [];
    proof_in_path = Some paths.proof;
    proof_in_binds = before.proof_in_binds + 1;
    text = before.text ++ within_text length bound;
  }

-- The proof is accepted with no length: its first refusal and the line of it are printed.
pub record Refused (paths : Paths) (before after : Told) : Type 0 where
  pub instance : Instance
  pub refusal : ℕ
  pub line : ℕ
  pub bytes_taken : ℕ
  pub instance_text : InstanceText before.instance instance
  pub first_refusal : verdict instance before.proof_in ≡ no refusal line
  pub accepted_with_no_length : (length bound : ℕ) → ¬ IsAcceptedText instance before.proof_in length bound
  pub desk : after ≡ record before {
    instance = [];
    instance_path = Some paths.instance;
    instance_binds = before.instance_binds + 1;
    proof_in = drop bytes_taken before.proof_in;
    proof_in_path = Some paths.proof;
    proof_in_binds = before.proof_in_binds + 1;
    text = before.text ++ refused_text refusal line;
  }

-- The bytes of the instance are no instance's text: their first refusal is printed. No proof is bound or read.
pub record BadInstance (path : List ℕ) (before after : Told) : Type 0 where
  pub refusal : Refusal
  pub bytes_taken : ℕ
  pub first_refusal : outcome before.instance ≡ Err refusal
  pub read_to_its_end : (drop bytes_taken before.instance ≡ []) ⊎ (refusal ≡ refusals.TooLong)
  pub few : bytes_taken ≤ 2 ^ 26 + 1
  pub desk : after ≡ record before {
    instance = drop bytes_taken before.instance;
    instance_path = Some path;
    instance_binds = before.instance_binds + 1;
    text = before.text ++ instance_text refusal;
  }

-- The words are not of the verifier's form: that form is printed.
pub record Usage (before after : Told) : Type 0 where
  pub desk : after ≡ record before { text = before.text ++ usage_text }
