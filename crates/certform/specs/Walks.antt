-- A tree's nodes in preorder, and what each of them adds to a proof.
use Rattle.std.specs.Prelude.{◌≡◌, ℕ, ◌+◌, ◌<◌, List, [], ◌∷◌, length, fold}
use Rattle.std.specs.List.{flat_map}
use Rattle.tspdef.specs.Cuts.{Cut}
use Rattle.tspdef.specs.Trees as trees
use Rattle.tspdef.specs.Trees.{Tree}
use Rattle.treebook.specs.Tables.{Node, State, open_node, closed_node, split_node, on_edge, on_clique, split_tree, state_at}
use Rattle.certdef.specs.Items.{Item, open_line, edge_line, clique_line}
use Rattle.certdef.specs.Proofs.{tree_items, closed_leaf}
use Rattle.certform.specs.Written.{from_one, with_cuts, written_leaf}

-- a node of some state is the root of t, and what comes behind it are the trees below it and others
abbrev pub ComesFirst : State → Tree → (List Tree → Type 0) → List Tree → Type 0
ComesFirst open_node t Behind ts = (t ≡ trees.open_leaf) × Behind ts
ComesFirst (closed_node c) t Behind ts = (t ≡ trees.closed_leaf c) × Behind ts
ComesFirst (split_node b child) t Behind ts = (x : Tree) × (y : Tree) × (t ≡ split_tree b x y) × Behind (x ∷ y ∷ ts)

-- the numbers are those of the nodes of some trees, one tree after the other, each in preorder
abbrev pub IsPreorder : List Node → List ℕ → List Tree → Type 0
IsPreorder nodes [] [] = Unit {0}
IsPreorder nodes [] (t ∷ ts) = ⊥
IsPreorder nodes (k ∷ ks) [] = ⊥
IsPreorder nodes (k ∷ ks) (t ∷ ts) = (k < length nodes) × ComesFirst (state_at nodes k) t (IsPreorder nodes ks) ts

-- the nodes below a node of some state, the second child first
abbrev pub stacked : State → List ℕ
stacked open_node = []
stacked (closed_node c) = []
stacked (split_node b child) = (child + 1) ∷ child ∷ []

-- a list of cuts with those of a node of some state
abbrev pub with_state_cuts : List Cut → State → List Cut
with_state_cuts cuts open_node = cuts
with_state_cuts cuts (closed_node c) = with_cuts cuts c.cuts
with_state_cuts cuts (split_node b child) = cuts

-- the cuts of nodes, in order of first use
abbrev pub node_cuts : List Node → List ℕ → List Cut
node_cuts nodes ks = fold (λ cuts k. with_state_cuts cuts (state_at nodes k)) [] ks

-- the lines of a node of some state, without those of the nodes below it
abbrev pub state_items : List Cut → State → List Item
state_items cuts open_node = open_line ∷ []
state_items cuts (closed_node c) = tree_items (closed_leaf (written_leaf cuts c))
state_items cuts (split_node (on_edge u v) child) = edge_line (u + 1) (v + 1) ∷ []
state_items cuts (split_node (on_clique s) child) = clique_line (from_one s) ∷ []

-- the lines of nodes
abbrev pub node_items : List Cut → List Node → List ℕ → List Item
node_items cuts nodes ks = flat_map (λ k. state_items cuts (state_at nodes k)) ks
