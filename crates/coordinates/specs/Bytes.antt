-- What is told of bytes as a desk.
use Rattle.std.specs.Prelude.{[], None}
use Rattle.ports.specs.Desk.{Told}
use Rattle.coordinates.specs.declared.bytes.Bytes.{Bytes}

-- they are left of the instance, and nothing is written or bound
abbrev pub told_of : Bytes → Told
told_of b = record {
  instance = b.rest.now;
  proof_in = [];
  text = [];
  proof_out = [];
  instance_path = None;
  proof_in_path = None;
  proof_out_path = None;
  instance_binds = 0;
  proof_in_binds = 0;
  proof_out_binds = 0;
}
