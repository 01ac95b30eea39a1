-- The boss's book: the search tree, who works on which node, and the best tour so far.
use Rattle.std.specs.Prelude.{◌≡◌, ℕ, ◌+◌, ◌-◌, Bool, true, false, cond, ◌==◌, Option, Some, None, List, [], ◌∷◌, ◌++◌, ℤ, pos, slice_index_or}
use Rattle.tspdef.specs.Paths.{Condition}
use Rattle.tspdef.specs.Instances.{Instance, length_in}
use Rattle.treebook.specs.Tables.{Node, closed_at, split_at, path_at, IsOpen}
use Rattle.treebook.specs.Tree.{branch_of}
use Rattle.treebook.specs.Tree as trees
use Rattle.pricer.specs.declared.closing.Report.{Report}
use Rattle.pricer.specs.declared.closing.Report.TheVariants as content
use Rattle.leasebook.specs.declared.lease.LeaseFate.{LeaseFate}
use Rattle.leasebook.specs.declared.lease.LeaseFate.TheVariants as fate
use Rattle.leasebook.specs.declared.lease.Lease.{Lease}
use Rattle.leasebook.specs.declared.lease.Entry.TheVariants.{Grant, End, Take}
use Rattle.leasebook.specs.Leases.{is_held, lease_at, of_grunt, of_node}
use Rattle.leasebook.specs.Log.{Table, entered}
use Rattle.bossx.specs.declared.brought.Brought.{Brought}
use Rattle.bossx.specs.declared.brought.Brought.TheVariants.{Plain, Hinted, Weighed}

-- the nodes that the book began with, and the length of the tour that was the best one then
pub record Start : Type 0 where
  pub nodes : List Node
  pub length : ℕ

-- The keys are those of the nodes: the free node with the least key is lent first. Settled nodes are those closed or split since
-- the start.
pub record Book : Type 0 where
  pub instance : Instance
  pub tree : trees.Table
  pub keys : List ℤ
  pub table : Table
  pub best : List ℕ
  pub settled : ℕ
  pub budget : ℕ
  pub grunts : ℕ
  pub gap : ℕ
  pub start : Start

-- ---- what a book says

abbrev pub best_length : Book → ℕ
best_length b = length_in b.instance b.best

-- The search is for tours below this length: the best one's less the gap.
abbrev pub level : Book → ℕ
level b = best_length b - b.gap

-- the path of a node
abbrev pub path_in : Book → ℕ → List Condition
path_in b node = path_at b.tree.fixed b.tree.nodes node

-- the node of a lease
abbrev pub node_of : Book → ℕ → ℕ
node_of b lease = (lease_at b.table.leases lease).node

abbrev pub key_at : List ℤ → ℕ → ℤ
key_at keys node = slice_index_or keys node (pos 0)

-- an open node that no lease holds
pub record IsFree (nodes : List Node) (leases : List Lease) (node : ℕ) : Type 0 where
  pub is_open : IsOpen nodes node
  pub is_free : of_node leases node ≡ None

-- ---- what is brought for a node

-- what it says of the node
abbrev pub content_of : Brought → Report
content_of (Plain r) = r
content_of (Hinted branch hint) = content.Split branch
content_of (Weighed p) = content.Closed p.closing

-- the key that it gives the children of its node, whose own key is given
abbrev pub key_from : Brought → ℤ → ℤ
key_from (Plain r) key = key
key_from (Hinted branch hint) key = hint
key_from (Weighed p) key = key

abbrev pub is_split : Report → Bool
is_split (content.Closed c) = false
is_split (content.Split branch) = true

-- what becomes of the lease that brought it
abbrev pub fate_by : Report → LeaseFate
fate_by (content.Closed c) = fate.Closed
fate_by (content.Split branch) = fate.Split

-- ---- changes of a book

abbrev pub with_table : Book → Table → Book
with_table b t = record b { table = t }

-- a lease that is held is lost
abbrev pub lost : Book → ℕ → Book
lost b lease = with_table b (entered b.table (End lease fate.Lost))

-- a lease is lost, if there is one
abbrev pub lost_if : Book → Option ℕ → Book
lost_if b None = b
lost_if b (Some lease) = lost b lease

-- the lease that a grunt holds is lost, if it holds one
abbrev pub released : Book → ℕ → Book
released b grunt = lost_if b (of_grunt b.table.leases grunt)

-- a lease is lost, if it is held
abbrev pub dropped : Book → ℕ → Book
dropped b lease = cond (is_held (lease_at b.table.leases lease)) (lost b lease) b

-- a node is lent to a grunt
abbrev pub granted : Book → ℕ → ℕ → Book
granted b grunt node = with_table b (entered b.table (Grant grunt node))

-- a node is closed, or split, as the report says
abbrev pub tree_after : trees.Table → ℕ → Report → trees.Table
tree_after t node (content.Closed c) = record t { nodes = closed_at t.nodes node c }
tree_after t node (content.Split branch) = record t { nodes = split_at t.nodes node (branch_of branch); room = t.room - 2 }

-- the children of a split have a key
abbrev pub keys_after : List ℤ → ℤ → Report → List ℤ
keys_after keys key (content.Closed c) = keys
keys_after keys key (content.Split branch) = keys ++ key ∷ key ∷ []

-- The lease that holds a settled node ends: as the report says where it is the lease that brought it; any other is lost.
abbrev pub end_by : Option ℕ → ℕ → LeaseFate → LeaseFate
end_by None holder f = fate.Lost
end_by (Some lease) holder f = cond (holder == lease) f fate.Lost

abbrev pub table_after : Table → Option ℕ → Option ℕ → LeaseFate → Table
table_after t None by f = t
table_after t (Some holder) by f = entered t (End holder (end_by by holder f))

-- what is brought for a node is taken
abbrev pub taken : Book → Option ℕ → ℕ → Brought → Book
taken b by node what = record b {
  tree = tree_after b.tree node (content_of what);
  keys = keys_after b.keys (key_from what (key_at b.keys node)) (content_of what);
  table = table_after (entered b.table (Take node (is_split (content_of what)))) (of_node b.table.leases node) by (fate_by (content_of what));
  settled = b.settled + 1;
}

-- a tour is the best one from now on
abbrev pub with_best : Book → List ℕ → Book
with_best b tour = record b { best = tour }
