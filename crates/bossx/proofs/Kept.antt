-- What the fields of a boss keep.
use Rattle.std.proofs.Common.{◌≡◌, ◌≢◌, ℕ, ◌+◌, ◌<◌, Bool, true, Option, Some, None, List, length, sym, ◌∙◌, ap, subst, arith, IsTrue, ◌↔◌}
use Rattle.std.specs.Prelude.{ℤ, vec_capacity}
use Rattle.tspdef.specs.Instances.{Instance, IsTourOf, length_in}
use Rattle.tspdef.specs.Closings.{Fits}
use Rattle.tspdef.specs.Sets.{IsProper}
use Rattle.tspdef.specs.Paths.{Condition, root, IsNew}
use Rattle.tspdef.specs.Trees.{Covers}
use Rattle.tspdef.proofs.Covering.{sound_below, root_obeyed}
use Rattle.treebook.specs.Tables.{tree_of}
use Rattle.treebook.specs.Tree as trees
use Rattle.tournament.specs.Places.{Places, key_of, IsLeast}
use Rattle.pricer.specs.Priced.{PricedClosing, IsPriced}
use Rattle.branchx.specs.Path.{Conditions}
use Rattle.cyc.specs.CitySet.{Members}
use Rattle.pricer.specs.declared.closing.Report.{Report}
use Rattle.leasebook.specs.declared.lease.LeaseFate.{LeaseFate}
use Rattle.leasebook.specs.declared.lease.LeaseFate.TheVariants.{Lost}
use Rattle.leasebook.specs.declared.lease.Entry.TheVariants.{Grant, End, Take}
use Rattle.leasebook.specs.Leases.{is_held, lease_at, of_grunt, of_node}
use Rattle.leasebook.specs.Log.{Table, entered, held}
use Rattle.bossx.specs.declared.brought.Brought.{Brought}
use Rattle.bossx.specs.declared.boss.Boss.TheInside.{Inside}
use Rattle.bossx.specs.Books.{Book, best_length, level, path_in, key_at, content_of, key_from, is_split, fate_by, tree_after, keys_after, table_after}
use Rattle.bossx.specs.Judging.{IsAtHome, IsNewSet, MayBeTaken}
use Rattle.bossx.specs.Steps.{IsNext, count_open, count_lost}
use Rattle.bossx.specs.Answers.{key_after}
use Rattle.bossx.specs.Kept.{IsBook, HasRoom}
use Rattle.bossx.specs.BossInside.{book_of, AreFree, IsWellKept}
use Rattle.bossx.proofs.LendingLemmas.{lost_kept, granted_kept}
use Rattle.bossx.proofs.SettlingLemmas.{taken_kept}
use Rattle.bossx.proofs.Keeping.{better_kept}
use Rattle.bossx.proofs.FreeLemmas.{free_lost, free_granted, free_taken, taken_ends, least_is_first}
use Rattle.bossx.proofs.Room.{room_lost, room_granted, room_best, room_taken}

-- what a sound tree covers
pub book_covers : (b : Book) → IsBook b → Covers b.instance (tree_of b.tree.nodes) (level b)
book_covers b k tour is = sound_below b.instance (level b) (root b.instance) (tree_of b.tree.nodes) tour k.instance.many is k.sound (root_obeyed b.instance tour is)

-- a lease is lost
pub lose_kept : (x : Inside) (l node : ℕ) (key : ℤ) (t : Table) (q : Places) → IsWellKept x → l < length x.table.leases → is_held (lease_at x.table.leases l) ≡ true
    → node ≡ (lease_at x.table.leases l).node → key ≡ key_at x.keys.items node → t ≡ entered x.table (End l Lost) → q.size ≡ x.free.size → key_of q node ≡ Some key
    → ((k : ℕ) → k ≢ node → key_of q k ≡ key_of x.free k) → IsWellKept (record x { table = t; free = q })
lose_kept x l node key t q k within is at same e size here others =
    let mine = (lease_at x.table.leases l).node in
    let old_places = k.places in
    subst (λ (u : Table). IsWellKept (record x { table = u; free = q })) (sym e) (record {
      book = lost_kept (book_of x) l within is k.book;
      room = room_lost (book_of x) l k.room;
      long = k.long;
      free = free_lost x.tree.nodes x.table.leases x.keys.items l x.free q within is k.book.apart k.book.names
          (subst (λ (n : ℕ). key_of q n ≡ Some (key_at x.keys.items n)) at (here ∙ ap Some same)) (λ j ne. others j (λ same. ne (same ∙ at))) k.free;
      places = omega (arith, size, old_places);
      keys = k.keys;
      first_nodes = k.first_nodes;
      first_settled = k.first_settled;
    })

-- a node is lent
pub lend_kept : (x : Inside) (g node : ℕ) (t : Table) (q : Places) → IsWellKept x → of_grunt x.table.leases g ≡ None → IsNext (book_of x) node
    → t ≡ entered x.table (Grant g node) → q.size ≡ x.free.size → key_of q node ≡ None
    → ((k : ℕ) → k ≢ node → key_of q k ≡ key_of x.free k) → IsWellKept (record x { table = t; free = q })
lend_kept x g node t q k idle next e size here others =
    let old_places = k.places in
    subst (λ (u : Table). IsWellKept (record x { table = u; free = q })) (sym e) (record {
      book = granted_kept (book_of x) g node idle next k.book;
      room = room_granted (book_of x) g node k.room;
      long = k.long;
      free = free_granted x.tree.nodes x.table.leases x.keys.items g node x.free q next.first.is_free.is_free here others k.free;
      places = omega (arith, size, old_places);
      keys = k.keys;
      first_nodes = k.first_nodes;
      first_settled = k.first_settled;
    })

-- the least that takes part may be lent
pub next_of : (x : Inside) (node : ℕ) → IsWellKept x → IsLeast x.free node → 0 < count_open (book_of x) → x.settled < x.budget → count_lost (book_of x) < 256 → x.settled + held x.table < x.budget
    → IsNext (book_of x) node
next_of x node k least some left few room = record {
  work = record { some = some; left = left; few = few };
  room = room;
  first = least_is_first (book_of x) x.free node k.free least;
}

-- a shorter tour is the best one
pub keep_kept : (x : Inside) (best tour : List ℕ) (long : ℕ) → IsWellKept x → IsTourOf x.instance tour → long ≡ length_in x.instance tour → long < best_length (book_of x) → best ≡ tour
    → IsWellKept (record x { best = best; length = long })
keep_kept x best tour long k is same shorter e =
    subst (λ (u : List ℕ). IsWellKept (record x { best = u; length = long })) (sym e) (record {
      book = better_kept (book_of x) tour is (omega (arith, same, shorter)) k.book;
      room = room_best (book_of x) tour k.room;
      long = same;
      free = k.free;
      places = k.places;
      keys = k.keys;
      first_nodes = k.first_nodes;
      first_settled = k.first_settled;
    })

-- ---- a node is settled

abbrev rebuilt : Book → trees.Table → List ℤ → Table → ℕ → Book
rebuilt b t ks u n = record b { tree = t; keys = ks; table = u; settled = n }

-- what the parts of the book are afterwards
pub record IsSettled (x y : Inside) (by : Option ℕ) (node : ℕ) (what : Brought) : Type 0 where
  pub same : y ≡ record x { tree = y.tree; keys = y.keys; free = y.free; table = y.table; settled = y.settled }
  pub tree : y.tree ≡ tree_after x.tree node (content_of what)
  pub keys : y.keys.items ≡ keys_after x.keys.items (key_from what (key_at x.keys.items node)) (content_of what)
  pub capacity : vec_capacity y.keys ≡ vec_capacity x.keys
  pub table : y.table ≡ table_after (entered x.table (Take node (is_split (content_of what)))) (of_node x.table.leases node) by (fate_by (content_of what))
  pub size : y.free.size ≡ x.free.size
  pub free : (k : ℕ) → key_of y.free k ≡ key_after x.free x.tree.nodes node (content_of what) (key_from what (key_at x.keys.items node)) k
  pub settled : y.settled ≡ x.settled + 1

moved : (P : trees.Table → List ℤ → Table → ℕ → Type 0) (t t' : trees.Table) (ks ks' : List ℤ) (u u' : Table) (n n' : ℕ) → t' ≡ t → ks' ≡ ks → u' ≡ u → n' ≡ n → P t ks u n → P t' ks' u' n'
moved P t t' ks ks' u u' n n' a b c d p =
    subst (λ z. P z ks' u' n') (sym a) (subst (λ z. P t z u' n') (sym b) (subst (λ z. P t ks z n') (sym c) (subst (λ z. P t ks u z) (sym d) p)))

pub settle_kept : (x y : Inside) (by : Option ℕ) (node : ℕ) (what : Brought) → IsWellKept x → MayBeTaken (book_of x) node what → IsSettled x y by node what → IsWellKept y
settle_kept x y by node what k may s =
    let b = book_of x in
    let r = content_of what in
    let key = key_from what (key_at x.keys.items node) in
    let new_table = table_after (entered x.table (Take node (is_split r))) (of_node x.table.leases node) by (fate_by r) in
    let size = s.size in let cap = s.capacity in let places = k.places in let keys = k.keys in
    subst IsWellKept (sym s.same) (record {
      book = moved (λ t ks u n. IsBook (rebuilt b t ks u n)) (tree_after x.tree node r) y.tree (keys_after x.keys.items key r) y.keys.items new_table y.table (x.settled + 1) y.settled s.tree s.keys s.table s.settled
          (taken_kept b by node what may k.book);
      room = moved (λ t ks u n. HasRoom (rebuilt b t ks u n)) (tree_after x.tree node r) y.tree (keys_after x.keys.items key r) y.keys.items new_table y.table (x.settled + 1) y.settled s.tree s.keys s.table s.settled
          (room_taken b by node what may.ready.left k.room);
      long = k.long;
      free = moved (λ t ks u n. AreFree t.nodes u.leases ks y.free) (tree_after x.tree node r) y.tree (keys_after x.keys.items key r) y.keys.items new_table y.table (x.settled + 1) y.settled s.tree s.keys s.table s.settled
          (free_taken x.tree x.table.leases new_table.leases x.keys.items node r key x.free y.free may.ready.is_open.within k.book.keys
          (taken_ends x.tree.nodes node x.table r by may.ready.is_open.within k.book.names) s.free k.free);
      places = omega (arith, size, places);
      keys = omega (arith, cap, keys);
      first_nodes = k.first_nodes;
      first_settled = k.first_settled;
    })

-- the parts are so, step by step
pub table_steps : (x : Inside) (by : Option ℕ) (node : ℕ) (what : Brought) (r : Report) (split : Bool) (holder : Option ℕ) (f : LeaseFate) (t u : Table)
    → r ≡ content_of what → split ≡ is_split r → holder ≡ of_node x.table.leases node → f ≡ fate_by r → t ≡ entered x.table (Take node split) → u ≡ table_after t holder by f
    → u ≡ table_after (entered x.table (Take node (is_split (content_of what)))) (of_node x.table.leases node) by (fate_by (content_of what))
table_steps x by node what r split holder f t u is splits holds fates took ended =
    let s : split ≡ is_split (content_of what) = splits ∙ ap is_split is in
    let g : f ≡ fate_by (content_of what) = fates ∙ ap fate_by is in
    let e : t ≡ entered x.table (Take node (is_split (content_of what))) = took ∙ ap (λ (z : Bool). entered x.table (Take node z)) s in
    ended ∙ ap (λ (z : Table). table_after z holder by f) e
    ∙ ap (λ (z : Option ℕ). table_after (entered x.table (Take node (is_split (content_of what)))) z by f) holds
    ∙ ap (λ (z : LeaseFate). table_after (entered x.table (Take node (is_split (content_of what)))) (of_node x.table.leases node) by z) g

-- ---- closings that are priced

abbrev conditions_with : List Condition → ℕ → Conditions
conditions_with path n = record { n = n; conditions = path }

pub home_fits : (b : Book) (node : ℕ) (p : PricedClosing) → IsPriced p → IsAtHome b node p → Fits b.instance.n (path_in b node) p.closing
home_fits b node p k home =
    subst (λ (path : Conditions). Fits b.instance.n path.conditions p.closing) home.path (subst (λ (i : Instance). Fits i.n p.path.conditions p.closing) home.instance k.fits)

pub home_path : (b : Book) (node : ℕ) (p : PricedClosing) (r : Bool) → b.tree.n ≡ b.instance.n → p.instance ≡ b.instance
    → (IsTrue r ↔ (p.path ≡ record { n = b.tree.n; conditions = path_in b node })) → IsTrue r ↔ IsAtHome b node p
home_path b node p r cities same on = (
  λ t. record { instance = same; path = on.0 t ∙ ap (conditions_with (path_in b node)) cities },
  λ h. on.1 (h.path ∙ ap (conditions_with (path_in b node)) (sym cities)),
)

-- ---- sets

pub set_new : (b : Book) (node : ℕ) (set : Members) (r : Bool) → b.tree.n ≡ b.instance.n → set.n ≡ b.instance.n → IsProper set.n set.cities
    → (IsTrue r ↔ IsNew b.tree.n (path_in b node) set.cities) → IsTrue r ↔ IsNewSet b.instance.n (path_in b node) set
set_new b node set r cities same proper is = (
  λ t. record { cities = same; proper = subst (λ (n : ℕ). IsProper n set.cities) same proper; is_new = subst (λ (n : ℕ). IsNew n (path_in b node) set.cities) cities (is.0 t) },
  λ h. is.1 (subst (λ (n : ℕ). IsNew n (path_in b node) set.cities) (sym cities) h.is_new),
)
