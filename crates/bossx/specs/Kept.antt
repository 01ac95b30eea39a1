-- What a book keeps, whatever events come.
use Rattle.std.specs.Prelude.{◌≡◌, ℕ, ◌+◌, ◌*◌, ◌<◌, ◌≤◌, true, List, [], length, map, count_by, replicate, pos}
use Rattle.std.specs.List.{AllPairs}
use Rattle.tspdef.specs.Instances.{Instance, IsInstance, IsTourOf, length_in}
use Rattle.tspdef.specs.Trees.{settled, IsSoundFor}
use Rattle.treebook.specs.Tables.{Node, State, open_node, closed_node, split_node, tree_of, IsTable, IsOpen}
use Rattle.treebook.specs.Tree as trees
use Rattle.leasebook.specs.Leases.{is_held, is_lost, lease_at, Apart}
use Rattle.leasebook.specs.Log.{NodeKind, open_kind, closed_kind, split_kind, replay_from, held}
use Rattle.bossx.specs.Books.{Book, best_length, level, node_of}

-- ---- the log

abbrev pub kind_of : State → NodeKind
kind_of open_node = open_kind
kind_of (closed_node c) = closed_kind
kind_of (split_node b child) = split_kind

abbrev pub kinds : List Node → List NodeKind
kinds nodes = map (λ (n : Node). kind_of n.state) nodes

-- From the nodes of the start on, the log gives what each node is, the leases, and how many nodes are settled.
abbrev pub Replays : Book → Type 0
Replays b = replay_from (kinds b.start.nodes) b.table.log ≡ record { kinds = kinds b.tree.nodes; leases = b.table.leases; settled = b.settled }

-- ---- the book

-- the tree is one over the instance's cities, on whose paths its pairs are fixed
pub record IsTreeOf (i : Instance) (t : trees.Table) : Type 0 where
  pub cities : t.n ≡ i.n
  pub fixed : t.fixed ≡ i.fixed
  pub is_table : IsTable i.n i.fixed t.nodes

-- each lease names a node, and a lease that is held an open one
abbrev pub NameNodes : Book → Type 0
NameNodes b = (l : ℕ) → l < length b.table.leases → (node_of b l < length b.tree.nodes) × (is_held (lease_at b.table.leases l) ≡ true → IsOpen b.tree.nodes (node_of b l))

-- What is charged: no more nodes are settled than the budget; no more leases are granted than the budget and 256; and each node
-- settled made two at most.
pub record IsCharged (b : Book) : Type 0 where
  pub within : b.settled ≤ b.budget
  pub grants : length b.table.leases ≤ b.budget + 256
  pub entries : length b.table.log + held b.table ≡ 2 * length b.table.leases + b.settled
  pub done : length b.table.leases ≤ held b.table + count_by is_lost b.table.leases + b.settled
  pub made : length b.tree.nodes ≤ length b.start.nodes + 2 * b.settled

-- Best is a tour of the instance, no longer than the one at the start. The tree is sound for the level. A lease that is held names
-- an open node, and two of them have different nodes and grunts. The log replays.
pub record IsBook (b : Book) : Type 0 where
  pub instance : IsInstance b.instance
  pub tour : IsTourOf b.instance b.best
  pub no_longer : best_length b ≤ b.start.length
  pub tree : IsTreeOf b.instance b.tree
  pub sound : IsSoundFor b.instance (level b) (tree_of b.tree.nodes)
  pub keys : length b.keys ≡ length b.tree.nodes
  pub apart : AllPairs Apart b.table.leases
  pub names : NameNodes b
  pub counted : settled (tree_of b.tree.nodes) ≡ settled (tree_of b.start.nodes) + b.settled
  pub charged : IsCharged b
  pub replays : Replays b

-- the book has room for all that may still come
pub record HasRoom (b : Book) : Type 0 where
  pub leases : b.budget + 256 ≤ b.table.lease_room
  pub entries : 3 * b.budget + 512 ≤ b.table.entry_room
  pub nodes : 2 * b.budget ≤ b.tree.room + 2 * b.settled
  pub names : length b.start.nodes + 2 * b.budget ≤ b.table.nodes
  pub grunts : b.grunts < b.table.grunts
  pub few : length b.start.nodes + 2 * b.budget ≤ 1048576

-- a book at its start: what it was made of, each node with key 0, and nothing lent or settled yet
pub record IsStart (i : Instance) (t : trees.Table) (tour : List ℕ) (most count miss : ℕ) (b : Book) : Type 0 where
  pub instance : b.instance ≡ i
  pub cities : b.tree.n ≡ t.n
  pub fixed : b.tree.fixed ≡ t.fixed
  pub nodes : b.tree.nodes ≡ t.nodes
  pub keys : b.keys ≡ replicate (length t.nodes) (pos 0)
  pub best : b.best ≡ tour
  pub leases : b.table.leases ≡ []
  pub log : b.table.log ≡ []
  pub settled : b.settled ≡ 0
  pub budget : b.budget ≡ most
  pub grunts : b.grunts ≡ count
  pub gap : b.gap ≡ miss
  pub start : b.start ≡ record { nodes = t.nodes; length = length_in i tour }
