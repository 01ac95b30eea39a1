-- What came of a search: a proof that no tour is shorter than a bound, or a body to go on from; or a tour alone.
use Rattle.std.specs.Prelude.{◌≡◌, ℕ, ◌+◌, ◌≤◌, List}
use Rattle.tspdef.specs.Tours.{IsCanonical}
use Rattle.tspdef.specs.Instances.{Instance, IsTourOf, length_in}
use Rattle.tspdef.specs.Trees.{Tree, open_leaves, settled}
use Rattle.treebook.specs.Laws.{IsGreatestBound}
use Rattle.certdef.specs.Proofs.{Proof, text}
use Rattle.certdef.specs.Accepted.{IsAcceptedText, IsTextOf, from_zero, tree_in}
use Rattle.certform.specs.Faithful.{AreAlike}
use Rattle.opening.specs.Openings.{IsOpeningTour}
use Rattle.tourfmt.specs.Texts.{IsTourText}
use Rattle.tspengine.specs.Starts.{Start}
use Rattle.tspengine.specs.Saves.{IsBodyOn}
use Rattle.tspengine.specs.Texts.{closed_text, length_text, stopped_text}
use Rattle.tspengine.specs.declared.outcomes.Outcome.{Outcome}
use Rattle.tspengine.specs.declared.outcomes.Outcome.TheVariants as outcome
use Rattle.tspengine.specs.declared.outcomes.Closed.{Closed}

-- The bound is the greatest, at most the length, that the tree of a value bears; in a leaf of the value cuts may stand in another order.
pub record Bears (i : Instance) (length bound : ℕ) (value : Proof) : Type 0 where
  pub tree : Tree
  pub alike : AreAlike tree (tree_in i.n value)
  pub greatest : IsGreatestBound i length tree bound

-- The tour visits each city once and holds the fixed pairs, no tour is shorter than the bound, which misses the tour's length by no more
-- than the gap, and the proof is the text of an accepted value with this tour, length and bound. No more nodes than the budget are
-- settled in its tree beside those of the start.
pub record IsProved (i : Instance) (budget gap : ℕ) (s : Start) (tour : List ℕ) (length bound : ℕ) (proof : List ℕ) : Type 0 where
  pub value : Proof
  pub is_tour : IsTourOf i tour
  pub canonical : IsCanonical tour
  pub long : length ≡ length_in i tour
  pub no_longer : length ≤ s.long
  pub below : bound ≤ length
  pub near : length ≤ bound + gap
  pub no_shorter : (other : List ℕ) → IsTourOf i other → bound ≤ length_in i other
  pub accepted : IsAcceptedText i proof length bound
  pub written : IsTextOf i proof length bound value
  pub same : from_zero value.tour ≡ tour
  pub bears : Bears i length bound value
  pub few : settled (tree_in i.n value) ≤ settled s.tree + budget

-- The budget's number of nodes is settled in the body beside those of the start.
pub record IsStopped (i : Instance) (budget gap : ℕ) (s : Start) (body : Proof) : Type 0 where
  pub on_the_way : IsBodyOn i budget gap s body
  pub settled : settled (tree_in i.n body) ≡ settled s.tree + budget

-- a proof, with the text of its tour and the line of its length
pub record IsProofOf (i : Instance) (budget gap : ℕ) (s : Start) (c : Closed) : Type 0 where
  pub tour : List ℕ
  pub proved : IsProved i budget gap s tour c.length c.bound c.proof.items
  pub prints : c.printed.items ≡ closed_text c.length c.bound tour
  pub lines : c.line.items ≡ length_text c.length

-- the text of a body, with the line of its length and the number of its open nodes
pub record IsBodyOf (i : Instance) (budget gap : ℕ) (s : Start) (bytes printed : List ℕ) : Type 0 where
  pub body : Proof
  pub stopped : IsStopped i budget gap s body
  pub is_text : bytes ≡ text body
  pub prints : printed ≡ stopped_text body.long (open_leaves (tree_in i.n body))

-- what came of a search
abbrev pub IsOutcome : Instance → ℕ → ℕ → Start → Outcome → Type 0
IsOutcome i budget gap s (outcome.Closed c) = IsProofOf i budget gap s c
IsOutcome i budget gap s (outcome.Stopped body printed) = IsBodyOf i budget gap s body.items printed.items

-- it is the proof
abbrev pub IsProof : Outcome → Type 0
IsProof (outcome.Closed c) = Unit {0}
IsProof (outcome.Stopped body printed) = ⊥

-- The text of a tour is printed. It is no longer than the nearest-neighbour walk, and no exchange of two steps with a near
-- replacement shortens it.
pub record IsTouring (i : Instance) (printed : List ℕ) : Type 0 where
  pub tour : List ℕ
  pub opening : IsOpeningTour i tour
  pub prints : IsTourText tour printed
