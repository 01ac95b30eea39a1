-- The log of a lease table: grants, ends of leases, and nodes that were closed or split. All else can be read off it.
use Rattle.std.specs.Prelude.{◌≡◌, ℕ, ◌+◌, if◌then◌else◌, Bool, true, false, List, [], ◌∷◌, ◌++◌, count_by, slice_set}
use Rattle.leasebook.specs.declared.lease.LeaseFate.TheVariants.{Held}
use Rattle.leasebook.specs.declared.lease.Lease.{Lease}
use Rattle.leasebook.specs.declared.lease.Entry.{Entry}
use Rattle.leasebook.specs.declared.lease.Entry.TheVariants.{Grant, End, Take}
use Rattle.leasebook.specs.Leases.{lease_at, is_held, is_lost_fate}

-- what a node is, as far as the log says it
pub data NodeKind : Type 0 where
  open_kind : NodeKind
  closed_kind : NodeKind
  split_kind : NodeKind

-- what the log gives: what each node is, the leases, and how many nodes were closed or split
pub record Replayed : Type 0 where
  pub kinds : List NodeKind
  pub leases : List Lease
  pub settled : ℕ

abbrev pub new_lease : ℕ → ℕ → Lease
new_lease grunt node = record { grunt = grunt; node = node; fate = Held }

-- the leases after an entry
abbrev pub leases_after : List Lease → Entry → List Lease
leases_after leases (Grant grunt node) = leases ++ new_lease grunt node ∷ []
leases_after leases (End lease fate) = slice_set leases lease (record (lease_at leases lease) { fate = fate })
leases_after leases (Take node split) = leases

-- the nodes after an entry: a split puts two open ones behind all others
abbrev pub kinds_after : List NodeKind → Entry → List NodeKind
kinds_after kinds (Grant grunt node) = kinds
kinds_after kinds (End lease fate) = kinds
kinds_after kinds (Take node split) = if split then slice_set kinds node split_kind ++ open_kind ∷ open_kind ∷ [] else slice_set kinds node closed_kind

abbrev pub settled_after : ℕ → Entry → ℕ
settled_after settled (Grant grunt node) = settled
settled_after settled (End lease fate) = settled
settled_after settled (Take node split) = settled + 1

abbrev pub after : Replayed → Entry → Replayed
after t e = record { kinds = kinds_after t.kinds e; leases = leases_after t.leases e; settled = settled_after t.settled e }

-- what a log gives from a state on
abbrev pub replay : Replayed → List Entry → Replayed
replay t [] = t
replay t (e ∷ es) = replay (after t e) es

-- what a log gives where these nodes were there before it
abbrev pub replay_from : List NodeKind → List Entry → Replayed
replay_from kinds log = replay (record { kinds = kinds; leases = []; settled = 0 }) log

-- the leases that a log gives
abbrev pub leases_of : List Entry → List Lease
leases_of log = (replay_from [] log).leases

abbrev pub is_grant : Entry → Bool
is_grant (Grant grunt node) = true
is_grant (End lease fate) = false
is_grant (Take node split) = false

abbrev pub is_end : Entry → Bool
is_end (Grant grunt node) = false
is_end (End lease fate) = true
is_end (Take node split) = false

abbrev pub is_loss : Entry → Bool
is_loss (Grant grunt node) = false
is_loss (End lease fate) = is_lost_fate fate
is_loss (Take node split) = false

-- Leases, the count of those that are held and the count of those that were lost, as counts in the log.
pub record AreCounts (log : List Entry) (grants held lost : ℕ) : Type 0 where
  pub granted : grants ≡ count_by is_grant log
  pub ended : held + count_by is_end log ≡ count_by is_grant log
  pub losses : lost ≡ count_by is_loss log

-- what contracts see of a lease table: the leases, the log, the room of both, and below which numbers grunts and nodes are
pub record Table : Type 0 where
  pub leases : List Lease
  pub log : List Entry
  pub lease_room : ℕ
  pub entry_room : ℕ
  pub grunts : ℕ
  pub nodes : ℕ

-- how many leases are held
abbrev pub held : Table → ℕ
held t = count_by is_held t.leases

-- The only change of a table: an entry comes to the log, and acts on the leases.
abbrev pub entered : Table → Entry → Table
entered t e = record t { leases = leases_after t.leases e; log = t.log ++ e ∷ [] }

-- one more entry acts on what the entries before it gave, whatever nodes were there first
abbrev pub EntriesAct : Type 0
EntriesAct = (t : Replayed) (log : List Entry) (e : Entry) → replay t (log ++ e ∷ []) ≡ after (replay t log) e

-- the leases that a log gives do not depend on the nodes that were there first
abbrev pub LeasesStandAlone : Type 0
LeasesStandAlone = (kinds : List NodeKind) (log : List Entry) → (replay_from kinds log).leases ≡ leases_of log
