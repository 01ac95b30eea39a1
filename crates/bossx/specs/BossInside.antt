-- The fields of a boss.
use Rattle.std.specs.Prelude.{◌≡◌, ℕ, ◌+◌, ◌*◌, ◌≤◌, Some, List, length, ℤ, vec_capacity}
use Rattle.tspdef.specs.Trees.{settled}
use Rattle.treebook.specs.Tables.{Node, tree_of}
use Rattle.leasebook.specs.declared.lease.Lease.{Lease}
use Rattle.tournament.specs.Places.{Places, key_of}
use Rattle.bossx.specs.Books.{Book, best_length, key_at, IsFree}
use Rattle.bossx.specs.Kept.{IsBook, HasRoom}
use Rattle.bossx.specs.declared.boss.Boss.TheInside.{Inside}

abbrev pub book_of : Inside → Book
book_of x = record {
  instance = x.instance;
  tree = x.tree;
  keys = x.keys.items;
  table = x.table;
  best = x.best;
  settled = x.settled;
  budget = x.budget;
  grunts = x.grunts;
  gap = x.gap;
  start = record { nodes = x.opening.value.nodes; length = x.first_length };
}

-- the free nodes take part in the tournament, each with its key, and no other number does
pub record AreFree (nodes : List Node) (leases : List Lease) (keys : List ℤ) (places : Places) : Type 0 where
  pub told : (k : ℕ) (y : ℤ) → key_of places k ≡ Some y → IsFree nodes leases k × (y ≡ key_at keys k)
  pub all : (k : ℕ) → IsFree nodes leases k → key_of places k ≡ Some (key_at keys k)

pub record IsWellKept (x : Inside) : Type 0 where
  pub book : IsBook (book_of x)
  pub room : HasRoom (book_of x)
  pub long : x.length ≡ best_length (book_of x)
  pub free : AreFree x.tree.nodes x.table.leases x.keys.items x.free
  pub places : length x.opening.value.nodes + 2 * x.budget ≤ x.free.size
  pub keys : length x.opening.value.nodes + 2 * x.budget ≤ vec_capacity x.keys
  pub first_nodes : x.first_nodes ≡ length x.opening.value.nodes
  pub first_settled : x.first_settled ≡ settled (tree_of x.opening.value.nodes)
