-- What is answered about certificates, and what a desk is told.
use Rattle.std.specs.Prelude.{◌≡◌, ℕ, ◌≤◌, List, ℤ, ◌≤ℤ◌, ◌<ℤ◌}
use Rattle.tspdef.specs.Bounds.{needed}
use Rattle.onetree.specs.OneTrees.{IsHeldKarp}
use Rattle.tspdef.specs.Instances.{Instance, IsTourOf, length_in}
use Rattle.onetree.specs.Certificates.{IsAccepted, IsRefused}
use Rattle.onetree.specs.declared.answer.Answer.{Answer}
use Rattle.onetree.specs.declared.answer.Answer.TheVariants as answers

-- the answer is that the bytes are accepted with its bound, or how they are refused
abbrev pub Judges : Instance → List ℕ → Answer → Type 0
Judges i bytes (answers.Yes b) = IsAccepted i bytes b
Judges i bytes (answers.No k at) = IsRefused i bytes k at

-- with a yes no tour is shorter than the bound
abbrev pub NoTourIsShorterThan : Instance → Answer → Type 0
NoTourIsShorterThan i (answers.Yes b) = (tour : List ℕ) → IsTourOf i tour → b ≤ length_in i tour
NoTourIsShorterThan i (answers.No k at) = Unit {0}

-- bytes have one answer
abbrev pub AnswersAreOne : Type 0
AnswersAreOne = (i : Instance) (bytes : List ℕ) (a b : Answer) → i.n ≤ 2000 → Judges i bytes a → Judges i bytes b → a ≡ b

-- the answer about a bound and duals that were read
abbrev pub Prices : Instance → List ℤ → ℕ → Answer → Type 0
Prices i p b (answers.Yes x) = (x ≡ b) × ((h : ℤ) × IsHeldKarp i p h × (needed b <ℤ h))
Prices i p b (answers.No k at) = (k ≡ 7) × (at ≡ 3) × ((h : ℤ) × IsHeldKarp i p h × (h ≤ℤ needed b))
