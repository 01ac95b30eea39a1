-- What each step of a run does to the desk.
use Rattle.std.specs.Prelude.{◌≡◌, ℕ, ◌+◌, ◌^◌, ◌≤◌, ◌⊎◌, List, [], length, take, drop}
use Rattle.ports.specs.Desk.{Told, with_left, with_inlet_path}
use Rattle.ports.specs.declared.desk.Inlet.TheVariants as inlet
use Rattle.tspdef.specs.Instances.{Instance}
use Rattle.tspinst.specs.Texts.{InstanceText, BadInstanceText}
use Rattle.tspinst.specs.Refusals.{number_of, line_of, extras_of}
use Rattle.tspinst.specs.declared.refusals.Refusal.{Refusal}

-- ---- desks

-- the inlet of the instance was bound to a word, and this many bytes were taken
abbrev pub instance_told : List ℕ → ℕ → Told → Told
instance_told word count t = with_left inlet.Instance (drop count t.instance) (with_inlet_path inlet.Instance word t)

-- the same, and all bytes were taken
abbrev pub read_told : List ℕ → Told → Told
read_told word t = with_left inlet.Instance [] (with_inlet_path inlet.Instance word t)

-- the inlet of proofs was bound to a word, and this many bytes were taken
abbrev pub proof_told : List ℕ → ℕ → Told → Told
proof_told word count t = with_left inlet.Proof (drop count t.proof_in) (with_inlet_path inlet.Proof word t)

-- ---- steps

-- the inlet of the instance is bound to a word, and its bytes, all taken, are the text of the instance
pub record ReadsInstance (word : List ℕ) (i : Instance) (t u : Told) : Type 0 where
  pub read : InstanceText t.instance i
  pub others : u ≡ read_told word t

-- The inlet of the instance is bound to a word, and its bytes have this first refusal: all are taken, unless they are too many.
pub record RefusesInstance (word : List ℕ) (r : Refusal) (t u : Told) : Type 0 where
  pub refused : BadInstanceText t.instance (number_of r) (line_of r) (extras_of r)
  pub count : ℕ
  pub few : count ≤ 2 ^ 26 + 1
  pub whole : (drop count t.instance ≡ []) ⊎ (number_of r ≡ 1)
  pub others : u ≡ instance_told word count t

-- nothing is done, or the inlet of the instance is bound to a word, and a front of its bytes is taken
abbrev pub TouchesInstance : List ℕ → Told → Told → Type 0
TouchesInstance word t u = (u ≡ t) ⊎ ((count : ℕ) × (u ≡ instance_told word count t))

-- nothing is done, or the inlet of proofs is bound to a word, and a front of its bytes is taken
abbrev pub TouchesProof : List ℕ → Told → Told → Type 0
TouchesProof word t u = (u ≡ t) ⊎ ((count : ℕ) × (u ≡ proof_told word count t))

-- A fault of writing cut a step short: a front of its text was printed, and all else is as the step leaves it.
pub record Torn (Step : Told → Told → Type 0) (t u : Told) : Type 0 where
  pub whole : Told
  pub step : Step t whole
  pub front : ℕ
  pub kept : length t.text ≤ front
  pub others : u ≡ record whole { text = take front whole.text }
