-- What contracts see of a tree, and nodes of the code as those of a table.
use Rattle.std.specs.Prelude.{ℕ, List, map}
use Rattle.treebook.specs.Tables as defs
use Rattle.treebook.specs.Tables.{on_edge, on_clique, open_node, closed_node, split_node}
use Rattle.branchx.specs.declared.branch.Branch.{Branch}
use Rattle.branchx.specs.declared.branch.Branch.TheVariants.{Edge, Clique}
use Rattle.treebook.specs.declared.node.State as shown_states
use Rattle.treebook.specs.declared.node.State.TheVariants as shown_as
use Rattle.treebook.specs.declared.node.NodeState as states
use Rattle.treebook.specs.declared.node.NodeState.TheVariants as state
use Rattle.treebook.specs.declared.node.Node as nodes

-- a tree over n cities, the fixed pairs of its root, its nodes by their numbers, and how many more it has room for
pub record Table : Type 0 where
  pub n : ℕ
  pub fixed : List (ℕ × ℕ)
  pub nodes : List defs.Node
  pub room : ℕ

abbrev pub branch_of : Branch → defs.Branch
branch_of (Edge u v) = on_edge u v
branch_of (Clique set) = on_clique set.cities

abbrev pub state_of : states.NodeState → defs.State
state_of state.Open = open_node
state_of (state.Closed c) = closed_node c
state_of (state.Split b child) = split_node (branch_of b) child

-- the state that is lent
abbrev pub shown : shown_states.State → defs.State
shown shown_as.Open = open_node
shown (shown_as.Closed c) = closed_node c.now
shown (shown_as.Split b child) = split_node (branch_of b.now) child

abbrev pub node_of : nodes.Node → defs.Node
node_of k = record { parent = k.parent; state = state_of k.state }

abbrev pub nodes_of : List nodes.Node → List defs.Node
nodes_of ks = map node_of ks
