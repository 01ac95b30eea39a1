-- What a desk tells.
use Rattle.std.specs.Prelude.{◌≡◌, ℕ, ◌+◌, List, [], ◌++◌, drop, Option, Some}
use Rattle.ports.specs.declared.desk.Inlet.{Inlet}
use Rattle.ports.specs.declared.desk.Inlet.TheVariants as inlet
use Rattle.ports.specs.declared.desk.Outlet.{Outlet}
use Rattle.ports.specs.declared.desk.Outlet.TheVariants as outlet

-- the bytes left for each inlet, the bytes taken by each outlet, the paths last bound, and how often each was bound
pub record Told : Type 0 where
  pub instance : List ℕ
  pub proof_in : List ℕ
  pub text : List ℕ
  pub proof_out : List ℕ
  pub instance_path : Option (List ℕ)
  pub proof_in_path : Option (List ℕ)
  pub proof_out_path : Option (List ℕ)
  pub instance_binds : ℕ
  pub proof_in_binds : ℕ
  pub proof_out_binds : ℕ

-- the bytes left for an inlet
abbrev pub left : Inlet → Told → List ℕ
left inlet.Instance t = t.instance
left inlet.Proof t = t.proof_in

-- the same but for the bytes left for one inlet
abbrev pub with_left : Inlet → List ℕ → Told → Told
with_left inlet.Instance bytes t = record t { instance = bytes }
with_left inlet.Proof bytes t = record t { proof_in = bytes }

-- the bytes taken by an outlet
abbrev pub taken : Outlet → Told → List ℕ
taken outlet.Text t = t.text
taken outlet.Proof t = t.proof_out

-- the same but for more bytes behind those that one outlet has taken
abbrev pub with_added : Outlet → List ℕ → Told → Told
with_added outlet.Text bytes t = record t { text = t.text ++ bytes }
with_added outlet.Proof bytes t = record t { proof_out = t.proof_out ++ bytes }

-- the path last bound to an inlet
abbrev pub inlet_path : Inlet → Told → Option (List ℕ)
inlet_path inlet.Instance t = t.instance_path
inlet_path inlet.Proof t = t.proof_in_path

-- how often an inlet was bound
abbrev pub inlet_binds : Inlet → Told → ℕ
inlet_binds inlet.Instance t = t.instance_binds
inlet_binds inlet.Proof t = t.proof_in_binds

-- the same but for one inlet's path, and one bind of it more
abbrev pub with_inlet_path : Inlet → List ℕ → Told → Told
with_inlet_path inlet.Instance path t = record t { instance_path = Some path; instance_binds = t.instance_binds + 1 }
with_inlet_path inlet.Proof path t = record t { proof_in_path = Some path; proof_in_binds = t.proof_in_binds + 1 }

-- the same but for the path of the outlet that can be bound, and one bind of it more
abbrev pub with_outlet_path : List ℕ → Told → Told
with_outlet_path path t = record t { proof_out_path = Some path; proof_out_binds = t.proof_out_binds + 1 }

-- an inlet had these bytes in front and has the rest left, and nothing else changed
pub record Takes (from : Inlet) (bytes : List ℕ) (old new : Told) : Type 0 where
  pub front : left from old ≡ bytes ++ left from new
  pub others : new ≡ with_left from (left from new) old

-- an inlet is at its end
abbrev pub IsAtEnd : Inlet → Told → Type 0
IsAtEnd from t = left from t ≡ []

-- an inlet had just these bytes left, and now has none; nothing else changed
pub record TakesAll (from : Inlet) (all : List ℕ) (old new : Told) : Type 0 where
  pub whole : left from old ≡ all
  pub others : new ≡ with_left from [] old

-- the first k bytes of an inlet are gone, and nothing else changed
abbrev pub TakesFirst : Inlet → ℕ → Told → Told → Type 0
TakesFirst from k old new = new ≡ with_left from (drop k (left from old)) old

-- an outlet took these bytes more, and nothing else changed
abbrev pub Adds : Outlet → List ℕ → Told → Told → Type 0
Adds to bytes old new = new ≡ with_added to bytes old
