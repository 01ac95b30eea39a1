-- What reading an instance from a desk does.
use Rattle.std.specs.Prelude.{◌≡◌, ◌≤◌, ◌+◌, ◌^◌, ℕ, ◌⊎◌, [], Result, Ok, Err}
use Rattle.tspdef.specs.Instances.{Instance}
use Rattle.ports.specs.declared.desk.Inlet.TheVariants as inlets
use Rattle.ports.specs.Desk.{Told, left, with_left, TakesFirst}
use Rattle.tspinst.specs.declared.refusals.Refusal.{Refusal}
use Rattle.tspinst.specs.declared.refusals.ReadError.{ReadError}
use Rattle.tspinst.specs.declared.refusals.ReadError.TheVariants.{NoMemory, Failed, Refused}
use Rattle.tspinst.specs.Refusals.{number_of, line_of, extras_of}
use Rattle.tspinst.specs.Texts.{InstanceText, BadInstanceText}

-- all bytes left for the instance were taken, and nothing else changed
abbrev pub TakesInstance : Told → Told → Type 0
TakesInstance old new = new ≡ with_left inlets.Instance [] old

-- the bytes left for the instance were its text, and all were taken
pub record Answers (i : Instance) (old new : Told) : Type 0 where
  pub text : InstanceText (left inlets.Instance old) i
  pub taken : TakesInstance old new

-- the bytes left for the instance have this first refusal, and all were taken unless they are too many
pub record Refuses (r : Refusal) (old new : Told) : Type 0 where
  pub text : BadInstanceText (left inlets.Instance old) (number_of r) (line_of r) (extras_of r)
  pub taken : (number_of r ≡ 1) ⊎ TakesInstance old new

-- a front of the bytes left for the instance was taken, of one byte more than a text may have at most
pub record TakesFront (old new : Told) : Type 0 where
  pub count : ℕ
  pub few : count ≤ 2 ^ 26 + 1
  pub taken : TakesFirst inlets.Instance count old new

-- where the text was refused, this is so of the refusal
abbrev pub IfRefused : Result Instance ReadError → (Refusal → Type 0) → Type 0
IfRefused (Ok i) P = Unit {0}
IfRefused (Err NoMemory) P = Unit {0}
IfRefused (Err Failed) P = Unit {0}
IfRefused (Err (Refused r)) P = P r
