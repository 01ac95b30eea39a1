-- What is read out of a restart body, and why a body is refused.
use Rattle.std.specs.Prelude.{◌≡◌, ℕ, ◌+◌, ◌-◌, ◌*◌, ◌<◌, ◌≤◌, ◌==◌, ◌⊎◌, if◌then◌else◌, List, length}
use Rattle.tspdef.specs.Instances.{Instance, IsTourOf, length_in}
use Rattle.tspdef.specs.Tours.{IsCanonical}
use Rattle.tspdef.specs.Trees.{Tree, IsSoundFor}
use Rattle.certdef.specs.Proofs.{Proof, text}
use Rattle.certdef.specs.Accepted.{from_zero, tree_in, most_bytes}
use Rattle.certdef.specs.Verdicts.{no}
use Rattle.verdict.specs.Bodies.{merged, resumed, body_verdict, IsBodyOf}
use Rattle.verdict.specs.Parts.{preorder}

-- how many nodes the tree of a value has
abbrev pub nodes_in : ℕ → Proof → ℕ
nodes_in n p = length (preorder (merged (tree_in n p)))

-- the most nodes that a search may have, those of its budget with it
abbrev pub most_nodes : ℕ
most_nodes = 1048576

-- The body is read as this tree and this tour: it is the text of a value about the instance whose tree is sound for the value's bound.
-- The tour is the value's. The tree is the value's, with equal cuts of a leaf as one and with leaves open that are too weak for the
-- level, which is the tour's length less the gap; so it is sound for the level. The budget fits.
pub record IsResumed (i : Instance) (budget gap : ℕ) (body : List ℕ) (tree : Tree) (tour : List ℕ) : Type 0 where
  pub value : Proof
  pub text : body ≡ text value
  pub few_bytes : length body ≤ most_bytes
  pub long : ℕ
  pub bound : ℕ
  pub said : IsBodyOf i body long bound value
  pub tours_are_one : tour ≡ from_zero value.tour
  pub is_tour : IsTourOf i tour
  pub canonical : IsCanonical tour
  pub length_told : length_in i tour ≡ long
  pub reopened : tree ≡ resumed i (long - gap) value
  pub kept : IsSoundFor i (length_in i tour - gap) tree
  pub room : nodes_in i.n value + 2 * budget ≤ most_nodes

-- A refusal on resuming, of one by the tests of a resumer: 2 another number of cities, 3 a wrong length, 4 a weak leaf, and 1 any other.
abbrev pub told_as : ℕ → ℕ
told_as k = if k == 2 then 2 else if k == 4 then 3 else if k == 7 then 4 else 1

-- 5 at line 0: the body is one, but its tree has too many nodes
pub record HasTooMany (i : Instance) (budget : ℕ) (body : List ℕ) (k at : ℕ) : Type 0 where
  pub refusal : k ≡ 5
  pub line : at ≡ 0
  pub long : ℕ
  pub bound : ℕ
  pub value : Proof
  pub few_bytes : length body ≤ most_bytes
  pub said : IsBodyOf i body long bound value
  pub many : most_nodes < nodes_in i.n value + 2 * budget

-- a resumer's tests refuse the body so
pub record IsRefusedByTests (i : Instance) (body : List ℕ) (k at : ℕ) : Type 0 where
  pub refusal : ℕ
  pub verdict : body_verdict i body ≡ no refusal at
  pub told : k ≡ told_as refusal

-- the body is refused so, whatever the gap
abbrev pub IsRefused : Instance → (budget gap : ℕ) → List ℕ → (k at : ℕ) → Type 0
IsRefused i budget gap body k at = IsRefusedByTests i body k at ⊎ HasTooMany i budget body k at

-- ---- the laws

-- What can be read is not refused.
abbrev pub OneReading : Type 0
OneReading = (i : Instance) (budget gap : ℕ) (body : List ℕ) (tree : Tree) (tour : List ℕ) (refusal line : ℕ)
    → IsResumed i budget gap body tree tour → IsRefused i budget gap body refusal line → ⊥

-- A body is read as one tree and one tour.
abbrev pub OneTree : Type 0
OneTree = (i : Instance) (budget gap : ℕ) (body : List ℕ) (tree other : Tree) (tour another : List ℕ)
    → IsResumed i budget gap body tree tour → IsResumed i budget gap body other another → (tree ≡ other) × (tour ≡ another)

-- The text of a value that is a restart body is read, where its nodes leave room for the budget.
abbrev pub BodiesAreRead : Type 0
BodiesAreRead = (i : Instance) (budget gap : ℕ) (body : List ℕ) (l b : ℕ) (p : Proof) → length body ≤ most_bytes → IsBodyOf i body l b p → nodes_in i.n p + 2 * budget ≤ most_nodes
    → IsResumed i budget gap body (resumed i (l - gap) p) (from_zero p.tour)
