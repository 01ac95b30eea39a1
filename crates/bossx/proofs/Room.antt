-- That the room of a book suffices.
use Rattle.std.proofs.Common.{◌≡◌, ℕ, ◌+◌, ◌*◌, ◌<◌, ◌≤◌, Bool, true, Option, Some, None, List, [], ◌∷◌, length, refl, arith, length-append, IfSome}
use Rattle.leasebook.specs.declared.lease.LeaseFate.{LeaseFate}
use Rattle.leasebook.specs.declared.lease.Entry.TheVariants.{Take}
use Rattle.leasebook.specs.Leases.{is_held, lease_at, of_node}
use Rattle.leasebook.specs.Log.{Table, entered}
use Rattle.leasebook.proofs.HolderLemmas.{found}
use Rattle.pricer.specs.declared.closing.Report.{Report}
use Rattle.pricer.specs.declared.closing.Report.TheVariants as content
use Rattle.bossx.specs.declared.brought.Brought.{Brought}
use Rattle.bossx.specs.Books.{Book, lost, granted, with_best, taken, tree_after, table_after, content_of, fate_by, is_split}
use Rattle.bossx.specs.Kept.{IsBook, HasRoom}
use Rattle.bossx.proofs.LendingLemmas.{some_held}

-- the log has room for the end of a lease that is held
pub end_room : (b : Book) (l : ℕ) → l < length b.table.leases → is_held (lease_at b.table.leases l) ≡ true → IsBook b → HasRoom b → length b.table.log < b.table.entry_room
end_room b l within is k r =
    let s = some_held b.table.leases l within is in
    let c = k.charged in
    let e = c.entries in let g = c.grants in let w = c.within in let room = r.entries in
    omega (arith, s, e, g, w, room)

-- and where a node is settled, for that and for the end of the lease that holds it
close_room_at : (b : Book) (node : ℕ) (split : Bool) (o : Option ℕ) → of_node b.table.leases node ≡ o → b.settled < b.budget → IsBook b → HasRoom b
    → IfSome o (λ h. (h < length b.table.leases) × (is_held (lease_at b.table.leases h) ≡ true) × (length (entered b.table (Take node split)).log < b.table.entry_room))
close_room_at b node split None is left k r = tt
close_room_at b node split (Some l) is left k r =
    let f = found (λ x. x.node) b.table.leases node l is in
    let s = some_held b.table.leases l f.0 f.1 in
    let log = length-append b.table.log (Take node split ∷ []) in
    let c = k.charged in
    let e = c.entries in let g = c.grants in let entries = r.entries in
    (f.0, f.1, omega (arith, s, log, e, g, left, entries))

pub close_room : (b : Book) (node : ℕ) (split : Bool) → b.settled < b.budget → IsBook b → HasRoom b
    → IfSome (of_node b.table.leases node) (λ h. (h < length b.table.leases) × (is_held (lease_at b.table.leases h) ≡ true) × (length (entered b.table (Take node split)).log < b.table.entry_room))
close_room b node split left k r = close_room_at b node split (of_node b.table.leases node) refl left k r

-- ---- it stays

pub room_lost : (b : Book) (l : ℕ) → HasRoom b → HasRoom (lost b l)
room_lost b l r = record { leases = r.leases; entries = r.entries; nodes = r.nodes; names = r.names; grunts = r.grunts; few = r.few }

pub room_granted : (b : Book) (g node : ℕ) → HasRoom b → HasRoom (granted b g node)
room_granted b g node r = record { leases = r.leases; entries = r.entries; nodes = r.nodes; names = r.names; grunts = r.grunts; few = r.few }

pub room_best : (b : Book) (tour : List ℕ) → HasRoom b → HasRoom (with_best b tour)
room_best b tour r = record { leases = r.leases; entries = r.entries; nodes = r.nodes; names = r.names; grunts = r.grunts; few = r.few }

-- the room of a table does not depend on what is in it
record IsSameRoom (t u : Table) : Type 0 where
  leases : u.lease_room ≡ t.lease_room
  entries : u.entry_room ≡ t.entry_room
  nodes : u.nodes ≡ t.nodes
  grunts : u.grunts ≡ t.grunts

same_room : (t : Table) (o by : Option ℕ) (f : LeaseFate) → IsSameRoom t (table_after t o by f)
same_room t None by f = record { leases = refl; entries = refl; nodes = refl; grunts = refl }
same_room t (Some l) by f = record { leases = refl; entries = refl; nodes = refl; grunts = refl }

tree_room : (b : Book) (node : ℕ) (r : Report) → b.settled < b.budget → HasRoom b → 2 * b.budget ≤ (tree_after b.tree node r).room + 2 * (b.settled + 1)
tree_room b node (content.Closed c) left r = let n = r.nodes in omega (arith, n)
tree_room b node (content.Split branch) left r = let n = r.nodes in omega (arith, n, left)

pub room_taken : (b : Book) (by : Option ℕ) (node : ℕ) (what : Brought) → b.settled < b.budget → HasRoom b → HasRoom (taken b by node what)
room_taken b by node what left r =
    let report = content_of what in
    let s = same_room (entered b.table (Take node (is_split report))) (of_node b.table.leases node) by (fate_by report) in
    let x = s.leases in let y = s.entries in let z = s.nodes in let w = s.grunts in
    let leases = r.leases in let entries = r.entries in let names = r.names in let grunts = r.grunts in
    record {
      leases = omega (arith, x, leases);
      entries = omega (arith, y, entries);
      nodes = tree_room b node report left r;
      names = omega (arith, z, names);
      grunts = omega (arith, w, grunts);
      few = r.few;
    }
