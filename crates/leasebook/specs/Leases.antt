-- Leases: nodes lent to grunts, and what became of them. A lease's number is its place in the list.
use Rattle.std.specs.Prelude.{◌≢◌, ◌≡◌, ◌==◌, ◌&&◌, ℕ, Bool, true, false, Option, List, slice_index_or, position}
use Rattle.leasebook.specs.declared.lease.LeaseFate.{LeaseFate}
use Rattle.leasebook.specs.declared.lease.LeaseFate.TheVariants.{Held, Closed, Split, Lost}
use Rattle.leasebook.specs.declared.lease.Lease.{Lease}

abbrev pub is_held_fate : LeaseFate → Bool
is_held_fate Held = true
is_held_fate Closed = false
is_held_fate Split = false
is_held_fate Lost = false

abbrev pub is_lost_fate : LeaseFate → Bool
is_lost_fate Held = false
is_lost_fate Closed = false
is_lost_fate Split = false
is_lost_fate Lost = true

abbrev pub is_held : Lease → Bool
is_held l = is_held_fate l.fate

abbrev pub is_lost : Lease → Bool
is_lost l = is_lost_fate l.fate

abbrev pub no_lease : Lease
no_lease = record { grunt = 0; node = 0; fate = Lost }

-- the lease of a number
abbrev pub lease_at : List Lease → ℕ → Lease
lease_at leases l = slice_index_or leases l no_lease

-- the first lease that is held and has this number in a field
abbrev pub holder : (Lease → ℕ) → List Lease → ℕ → Option ℕ
holder field leases k = position (λ l. is_held l && (field l == k)) leases

-- the lease that a grunt holds
abbrev pub of_grunt : List Lease → ℕ → Option ℕ
of_grunt leases grunt = holder (λ l. l.grunt) leases grunt

-- the lease that holds a node
abbrev pub of_node : List Lease → ℕ → Option ℕ
of_node leases node = holder (λ l. l.node) leases node

-- two leases that are held have different nodes and different grunts
abbrev pub Apart : Lease → Lease → Type 0
Apart a b = is_held a ≡ true → is_held b ≡ true → (a.node ≢ b.node) × (a.grunt ≢ b.grunt)
