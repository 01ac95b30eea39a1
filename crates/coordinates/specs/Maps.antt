-- Points as a map of an instance.
use Rattle.std.specs.Prelude.{◌≡◌, List, length, Result, Ok, Err}
use Rattle.tspdef.specs.Instances.{Instance}
use Rattle.distx.specs.declared.Kind.{Kind}
use Rattle.distx.specs.Kind.{rule_of}
use Rattle.tspinst.specs.Tables.{Point, distances}
use Rattle.tspinst.specs.declared.refusals.Refusal.{Refusal}
use Rattle.coordinates.specs.declared.reading.Mapped.{Mapped}
use Rattle.coordinates.specs.declared.reading.ReadError.{ReadError}
use Rattle.coordinates.specs.declared.reading.ReadError.TheVariants as errors

-- there is a point of each city, and the instance's distances are the points' by one of the rules
pub record IsMapOf (i : Instance) (points : List Point) : Type 0 where
  pub each : length points ≡ i.n
  pub kind : Kind
  pub distances_of : i.table ≡ distances (rule_of kind) points

-- where a text was refused, this is so of the refusal
abbrev pub IfRefused : Result Mapped ReadError → (Refusal → Type 0) → Type 0
IfRefused (Ok m) P = Unit {0}
IfRefused (Err (errors.Refused r)) P = P r
IfRefused (Err errors.NoMemory) P = Unit {0}
