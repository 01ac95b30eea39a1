-- What a proof or a restart body says, and why it is refused.
use Rattle.std.specs.Prelude.{◌≡◌, ℕ, ◌<◌, ◌≤◌, ◌⊎◌, List, [], ◌∷◌, length, map}
use Rattle.tspdef.specs.Instances.{Instance}
use Rattle.certdef.specs.Proofs.{Proof}
use Rattle.certdef.specs.Accepted.{from_zero, tree_in, most_bytes}
use Rattle.certdef.specs.Verdicts.{no}
use Rattle.verdict.specs.Bodies.{merged, body_verdict, IsBodyOf, IsBodyText}
use Rattle.verdict.specs.Parts.{Part, the_tour, opened, closed, edge, clique, preorder}
use Rattle.certcheck.specs.declared.answer.Trouble.{Trouble}
use Rattle.certcheck.specs.declared.answer.Trouble.TheVariants as troubles
use Rattle.picture.specs.declared.tree.Node.{Node}
use Rattle.picture.specs.declared.tree.Node.TheVariants as nodes

-- which node is drawn for a part; a tour, which is never behind the first part, is none
abbrev pub node_of : Part → Node
node_of (the_tour cities) = nodes.Open
node_of opened = nodes.Open
node_of (closed c) = nodes.Closed
node_of (edge u v) = nodes.Split
node_of (clique s) = nodes.Split

-- the nodes of a value's tree in preorder
abbrev pub nodes_of : ℕ → Proof → List Node
nodes_of n p = map node_of (preorder (merged (tree_in n p)))

-- the most nodes that are drawn
abbrev pub most_nodes : ℕ
most_nodes = 1048576

-- The bytes are the text of a proof or a restart body for the instance, and these are its length, its tour and its nodes.
pub record IsSaid (i : Instance) (bytes : List ℕ) (l : ℕ) (tour : List ℕ) (drawn : List Node) : Type 0 where
  pub bound : ℕ
  pub value : Proof
  pub few_bytes : length bytes ≤ most_bytes
  pub body : IsBodyOf i bytes l bound value
  pub tour_told : tour ≡ from_zero value.tour
  pub nodes_told : drawn ≡ nodes_of i.n value
  pub few : length drawn ≤ most_nodes

-- The bytes are such a text, of more nodes than are drawn.
pub record HasTooMany (i : Instance) (bytes : List ℕ) : Type 0 where
  pub long : ℕ
  pub bound : ℕ
  pub value : Proof
  pub few_bytes : length bytes ≤ most_bytes
  pub body : IsBodyOf i bytes long bound value
  pub many : most_nodes < length (nodes_of i.n value)

-- The tests of a resumer refuse the bytes so, which are no such text.
pub record IsRefusedByTests (i : Instance) (bytes : List ℕ) (k line : ℕ) : Type 0 where
  pub first : body_verdict i bytes ≡ no k line
  pub never : (l b : ℕ) → ¬ IsBodyText i bytes l b

-- the bytes are refused so: by the tests, or as too many nodes
abbrev pub IsRefusedAs : Instance → List ℕ → (k line : ℕ) → Type 0
IsRefusedAs i bytes k line = IsRefusedByTests i bytes k line ⊎ ((k ≡ 12) × (line ≡ 0) × HasTooMany i bytes)

abbrev pub IsRefusal : Instance → Trouble → List ℕ → Type 0
IsRefusal i troubles.NoMemory bytes = Unit {0}
IsRefusal i (troubles.Refused k line) bytes = IsRefusedAs i bytes k line

-- the first part is a tour
abbrev pub BeginsWithTour : List Part → Type 0
BeginsWithTour [] = ⊥
BeginsWithTour (the_tour cities ∷ ps) = Unit {0}
BeginsWithTour (opened ∷ ps) = ⊥
BeginsWithTour (closed c ∷ ps) = ⊥
BeginsWithTour (edge u v ∷ ps) = ⊥
BeginsWithTour (clique set ∷ ps) = ⊥
