-- What each step of a call does to the desk. All else stays as it was.
use Rattle.std.specs.Prelude.{◌≡◌, ℕ, ◌+◌, ◌≤◌, ◌⊎◌, List, [], ◌++◌, length, take, Some}
use Rattle.ports.specs.Desk.{Told}

-- the inlet of the instance is bound once more, to a path, and read to its end
abbrev pub reads : List ℕ → Told → Told
reads path t = record t { instance = []; instance_path = Some path; instance_binds = t.instance_binds + 1 }

-- the outlet of proofs is bound once more, to a path, and takes these bytes
abbrev pub writes : List ℕ → List ℕ → Told → Told
writes path bytes t = record t { proof_out = t.proof_out ++ bytes; proof_out_path = Some path; proof_out_binds = t.proof_out_binds + 1 }

-- standard output takes a text
abbrev pub prints : List ℕ → Told → Told
prints text t = record t { text = t.text ++ text }

-- the outlet of proofs is bound to a path, and takes a front of some bytes; of a text nothing is printed unless all those bytes
-- are taken, and then a front
pub record WritesFronts (path bytes text : List ℕ) (t u : Told) : Type 0 where
  pub taken : ℕ
  pub printed : ℕ
  pub order : (printed ≡ 0) ⊎ (length bytes ≤ taken)
  pub desk : u ≡ prints (take printed text) (writes path (take taken bytes) t)

-- the outlet could not be bound, and nothing is done; or it is, and takes fronts
abbrev pub TearsWriting : List ℕ → List ℕ → List ℕ → Told → Told → Type 0
TearsWriting path bytes text t u = (u ≡ t) ⊎ WritesFronts path bytes text t u
