-- The fields of a tree.
use Rattle.std.specs.Prelude.{◌≡◌, ℕ, ◌+◌, ◌^◌, ◌<◌, ◌≤◌, List, length, vec_len, vec_capacity}
use Rattle.tspdef.specs.Trees.{open_leaves, settled}
use Rattle.treebook.specs.Tables.{Node, open_node, state_at, tree_of, IsTable, NoneOpen}
use Rattle.treebook.specs.Tree.{Table, nodes_of}
use Rattle.treebook.specs.declared.tree.Tree.TheInside.{Inside}

abbrev pub table_of : Inside → Table
table_of t = record { n = t.n; fixed = t.fixed.items; nodes = nodes_of t.nodes.items; room = t.room }

-- how many nodes of the table are open, and how many settled
pub record HasCounts (nodes : List Node) (open_count settled_count : ℕ) : Type 0 where
  pub opened : open_count ≡ open_leaves (tree_of nodes)
  pub settled : settled_count ≡ settled (tree_of nodes)
  pub all : open_count + settled_count ≡ length nodes

-- the first open node, or the number of nodes
pub record IsFront (nodes : List Node) (k : ℕ) : Type 0 where
  pub within : k ≤ length nodes
  pub none_before : NoneOpen nodes 0 k
  pub is_open : k < length nodes → state_at nodes k ≡ open_node

-- a table with its counts and its first open node, and with memory for the nodes that it has room for
pub record IsWellKept (t : Inside) : Type 0 where
  pub is_table : IsTable t.n t.fixed.items (nodes_of t.nodes.items)
  pub counts : HasCounts (nodes_of t.nodes.items) t.open_count t.settled_count
  pub front : IsFront (nodes_of t.nodes.items) t.front
  pub room : vec_len t.nodes + t.room ≤ vec_capacity t.nodes
  pub few : vec_len t.nodes + t.room < 2 ^ 32
