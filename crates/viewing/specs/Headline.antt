-- What each answer of a viewer says, of what its desk told before the run and after it. `instance` and `proof_in` are the bytes that
-- are left to read of the instance and of the text, `proof_out` are the bytes that were written to the file of the picture, `text` is
-- the standard output, and each file has the path that it was last bound to and how often it was bound. `record before { .. }` is the
-- desk before with these changes and no other. A bad instance is told as the verifier tells it: its `BadInstance`.
use Rattle.std.specs.Prelude.{◌≡◌, ℕ, ◌+◌, ◌≤◌, [], ◌++◌, length, Some}
use Rattle.ports.specs.Desk.{Told}
use Rattle.tspdef.specs.Instances.{Instance, IsTourOf, length_in}
use Rattle.tspinst.specs.Texts.{InstanceText}
use Rattle.certdef.specs.Proofs.{Proof}
use Rattle.certdef.specs.Accepted.{from_zero, most_bytes}
use Rattle.verdict.specs.Bodies.{IsBodyOf}
use Rattle.verification.specs.Texts.{refused_text}
use Rattle.picture.specs.Texts.{Scene, picture_text}
use Rattle.viewing.specs.Words.{Paths}
use Rattle.viewing.specs.Texts.{drawn_text, usage_text}
use Rattle.viewing.specs.Saying.{IsRefusedAs, nodes_of}
use Rattle.viewing.specs.Pictures.{Shows}

-- The text, read to its end, is a proof or a restart body for the instance. Its tour, which is one of the instance and has the length
-- that is printed, and the nodes of its tree are shown in the picture.
pub record Drawn (paths : Paths) (before after : Told) : Type 0 where
  pub instance : Instance
  pub long : ℕ
  pub bound : ℕ
  pub value : Proof
  pub scene : Scene
  pub instance_text : InstanceText before.instance instance
  pub few_bytes : length before.proof_in ≤ most_bytes
  pub body : IsBodyOf instance before.proof_in long bound value
  pub is_tour : IsTourOf instance (from_zero value.tour)
  pub length_told : length_in instance (from_zero value.tour) ≡ long
  pub shows : Shows instance long (from_zero value.tour) (nodes_of instance.n value) scene
  pub desk : after ≡ record before {
    instance = [];
    instance_path = Some paths.instance;
    instance_binds = before.instance_binds + 1;
    proof_in = [];
    proof_in_path = Some paths.text;
    proof_in_binds = before.proof_in_binds + 1;
    proof_out = before.proof_out ++ picture_text scene;
    proof_out_path = Some paths.out;
    proof_out_binds = before.proof_out_binds + 1;
    text = before.text ++ drawn_text long;
  }

-- The text, read to its end, is refused: its first refusal and the line of it are printed, and no picture is written.
pub record Refused (paths : Paths) (before after : Told) : Type 0 where
  pub instance : Instance
  pub refusal : ℕ
  pub line : ℕ
  pub instance_text : InstanceText before.instance instance
  pub refused : IsRefusedAs instance before.proof_in refusal line
  pub desk : after ≡ record before {
    instance = [];
    instance_path = Some paths.instance;
    instance_binds = before.instance_binds + 1;
    proof_in = [];
    proof_in_path = Some paths.text;
    proof_in_binds = before.proof_in_binds + 1;
    text = before.text ++ refused_text refusal line;
  }

-- The words are not of the viewer's form: that form is printed.
pub record Usage (before after : Told) : Type 0 where
  pub desk : after ≡ record before { text = before.text ++ usage_text }
