-- The fields of a lease table.
use Rattle.std.specs.Prelude.{◌≡◌, ℕ, ◌<◌, ◌^◌, Option, None, List, length, count_by, slice_index_or, vec_capacity}
use Rattle.std.specs.List.{AllPairs}
use Rattle.leasebook.specs.declared.lease.Lease.{Lease}
use Rattle.leasebook.specs.declared.lease.Entry.{Entry}
use Rattle.leasebook.specs.Leases.{is_held, is_lost, lease_at, holder, Apart}
use Rattle.leasebook.specs.Log.{Table, AreCounts, leases_of}
use Rattle.leasebook.specs.declared.table.LeaseTable.TheInside.{Inside}

abbrev pub table_of : Inside → Table
table_of t = record {
  leases = t.leases.items;
  log = t.log.items;
  lease_room = vec_capacity t.leases;
  entry_room = vec_capacity t.log;
  grunts = length t.by_grunt.items;
  nodes = length t.by_node.items;
}

-- an array says which lease is held with each number in a field
abbrev pub AreHolders : (Lease → ℕ) → List Lease → List (Option ℕ) → Type 0
AreHolders field leases holders = (k : ℕ) → k < length holders → slice_index_or holders k None ≡ holder field leases k

-- the fields of leases are below a number
abbrev pub AreBelow : (Lease → ℕ) → List Lease → ℕ → Type 0
AreBelow field leases n = (l : ℕ) → l < length leases → field (lease_at leases l) < n

-- The two arrays say who holds what, the numbers are counts, and the log gives the leases.
pub record AreKept (leases : List Lease) (log : List Entry) (by_node by_grunt : List (Option ℕ)) (held lost : ℕ) : Type 0 where
  pub nodes : AreHolders (λ l. l.node) leases by_node
  pub grunts : AreHolders (λ l. l.grunt) leases by_grunt
  pub nodes_below : AreBelow (λ l. l.node) leases (length by_node)
  pub grunts_below : AreBelow (λ l. l.grunt) leases (length by_grunt)
  pub apart : AllPairs Apart leases
  pub are_held : held ≡ count_by is_held leases
  pub are_lost : lost ≡ count_by is_lost leases
  pub few : length leases < 2 ^ 32
  pub logged : leases ≡ leases_of log
  pub counts : AreCounts log (length leases) held lost

abbrev pub IsWellKept : Inside → Type 0
IsWellKept t = AreKept t.leases.items t.log.items t.by_node.items t.by_grunt.items t.held t.lost
