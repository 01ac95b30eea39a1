-- What a book keeps as leases come and end.
use Rattle.std.proofs.Common.{◌≡◌, ℕ, ◌+◌, ◌<◌, Bool, true, false, cond, Option, Some, None, List, [], ◌∷◌, ◌++◌, length, set, sym, ◌∙◌, ap, subst, arith, ⊎_elim, refl, length-set, length-append, count_by}
use Rattle.std.proofs.lemmas.List.{get_or-set_same, get_or-set_other, get_or_append_left}
use Rattle.std.proofs.lemmas.Bool.{cases_lt, cases_eq}
use Rattle.std.proofs.lemmas.Grind.{common_steps}
use Rattle.treebook.specs.Tables.{Node, IsOpen}
use Rattle.leasebook.specs.declared.lease.LeaseFate.{LeaseFate}
use Rattle.leasebook.specs.declared.lease.LeaseFate.TheVariants.{Held, Closed, Split, Lost}
use Rattle.leasebook.specs.declared.lease.Lease.{Lease}
use Rattle.leasebook.specs.declared.lease.Entry.TheVariants.{Grant, End}
use Rattle.leasebook.specs.Leases.{is_held, is_held_fate, is_lost, is_lost_fate, lease_at, no_lease, of_grunt}
use Rattle.leasebook.specs.Log.{Replayed, after, new_lease, leases_after}
use Rattle.leasebook.proofs.LogLemmas.{entries_act}
use Rattle.leasebook.proofs.HolderLemmas.{found, apart_granted, apart_ended, counts_granted, counts_ended, none_after_end, grunts_differ}
use Rattle.bossx.specs.Books.{Book, lost, lost_if, released, granted, dropped}
use Rattle.bossx.specs.Steps.{IsNext}
use Rattle.bossx.specs.Kept.{IsBook}

-- ---- a lease ends

one : (b : Bool) → b ≡ true → ◌≡◌ {A = ℕ} (cond b 1 0) 1
one true e = refl
one false e = cc

none : (b : Bool) → b ≡ false → ◌≡◌ {A = ℕ} (cond b 1 0) 0
none true e = cc
none false e = refl

not_both : (f : LeaseFate) → is_held_fate f ≡ true → ◌≡◌ {A = ℕ} (cond (is_lost_fate f) 1 0) 0
not_both Held e = refl
not_both Closed e = refl
not_both Split e = refl
not_both Lost e = cc

pub fewer_held : (leases : List Lease) (l : ℕ) (f : LeaseFate) → is_held_fate f ≡ false → l < length leases → is_held (lease_at leases l) ≡ true
    → count_by is_held (leases_after leases (End l f)) + 1 ≡ count_by is_held leases
fewer_held leases l f ends within is =
    let n = counts_ended is_held leases l f within in
    let a = one (is_held (lease_at leases l)) is in
    let z = none (is_held_fate f) ends in
    omega (arith, n, a, z)

pub more_lost : (leases : List Lease) (l : ℕ) (f : LeaseFate) → l < length leases → is_held (lease_at leases l) ≡ true
    → count_by is_lost (leases_after leases (End l f)) ≡ count_by is_lost leases + cond (is_lost_fate f) 1 0
more_lost leases l f within is =
    let m = counts_ended is_lost leases l f within in
    let z = not_both (lease_at leases l).fate is in
    omega (arith, m, z)

pub some_held : (leases : List Lease) (l : ℕ) → l < length leases → is_held (lease_at leases l) ≡ true → 0 < count_by is_held leases
some_held leases l within is = let f = fewer_held leases l Lost refl within is in omega (arith, f)

pub ended_length : (leases : List Lease) (l : ℕ) (f : LeaseFate) → length (leases_after leases (End l f)) ≡ length leases
ended_length leases l f = length-set leases l (record (lease_at leases l) { fate = f })

-- leases of these nodes, those that are held of open ones
abbrev pub NameIn : List Node → List Lease → Type 0
NameIn nodes leases = (l : ℕ) → l < length leases → ((lease_at leases l).node < length nodes) × (is_held (lease_at leases l) ≡ true → IsOpen nodes (lease_at leases l).node)

pub names_ended : (nodes : List Node) (leases : List Lease) (l : ℕ) (f : LeaseFate) → is_held_fate f ≡ false → NameIn nodes leases → NameIn nodes (leases_after leases (End l f))
names_ended nodes leases l f ends names j inner =
    let y : Lease = record (lease_at leases l) { fate = f } in
    let inside : j < length leases = subst (λ m. j < m) (length-set leases l y) inner in
    let P : Lease → Type 0 = λ x. (x.node < length nodes) × (is_held x ≡ true → IsOpen nodes x.node) in
    ⊎_elim
    (λ e.
    let within : l < length leases = subst (λ k. k < length leases) e inside in
    let at : lease_at (set leases l y) j ≡ y = ap (λ k. lease_at (set leases l y) k) e ∙ get_or-set_same leases l y no_lease within in
    subst P (sym at) ((names l within).0, (λ is. absurd (cc))))
    (λ ne. subst P (sym (get_or-set_other leases l j y no_lease ne)) (names j inside))
    (cases_eq j l)

-- a lease that is held is lost
pub lost_kept : (b : Book) (l : ℕ) → l < length b.table.leases → is_held (lease_at b.table.leases l) ≡ true → IsBook b → IsBook (lost b l)
lost_kept b l within is k =
    let n = fewer_held b.table.leases l Lost refl within is in
    let m = more_lost b.table.leases l Lost within is in
    let len = ended_length b.table.leases l Lost in
    let log = length-append b.table.log (End l Lost ∷ []) in
    let c = k.charged in
    let entries = c.entries in
    let done = c.done in
    let grants = c.grants in
    record {
      instance = k.instance;
      tour = k.tour;
      no_longer = k.no_longer;
      tree = k.tree;
      sound = k.sound;
      keys = k.keys;
      apart = apart_ended b.table.leases l Lost refl k.apart;
      names = names_ended b.tree.nodes b.table.leases l Lost refl k.names;
      counted = k.counted;
      charged = record {
        within = c.within;
        grants = omega (arith, len, grants);
        entries = omega (arith, len, log, n, entries);
        done = omega (arith, len, n, m, done);
        made = c.made;
      };
      replays = entries_act _ b.table.log (End l Lost) ∙ ap (λ (t : Replayed). after t (End l Lost)) k.replays;
    }

-- the lease that is found for a grunt is lost
found_lost : (b : Book) (g : ℕ) (o : Option ℕ) → of_grunt b.table.leases g ≡ o → IsBook b → IsBook (lost_if b o)
found_lost b g None is k = k
found_lost b g (Some l) is k = let f = found (λ x. x.grunt) b.table.leases g l is in lost_kept b l f.0 f.1 k

pub released_kept : (b : Book) (g : ℕ) → IsBook b → IsBook (released b g)
released_kept b g k = found_lost b g (of_grunt b.table.leases g) refl k

pub idle_after : (b : Book) (g l : ℕ) → of_grunt b.table.leases g ≡ Some l → IsBook b → of_grunt (lost b l).table.leases g ≡ None
idle_after b g l is k =
    let f = found (λ x. x.grunt) b.table.leases g l is in
    subst (λ (n : ℕ). of_grunt (lost b l).table.leases n ≡ None) f.2 (none_after_end (λ x. x.grunt) b.table.leases l Lost grunts_differ refl f.0 f.1 k.apart)

-- a lease past the last one is not held
pub held_within : (leases : List Lease) (l : ℕ) → is_held (lease_at leases l) ≡ true → l < length leases
held_within leases l is = ⊎_elim
    (λ inside. inside)
    (λ past. let e : lease_at leases l ≡ no_lease = grind (arith, common_steps) in let h : false ≡ true = ap is_held (sym e) ∙ is in cc)
    (cases_lt l (length leases))

dropped_at : (b : Book) (l : ℕ) (h : Bool) → is_held (lease_at b.table.leases l) ≡ h → IsBook b → IsBook (cond h (lost b l) b)
dropped_at b l true is k = lost_kept b l (held_within b.table.leases l is) is k
dropped_at b l false is k = k

pub dropped_kept : (b : Book) (l : ℕ) → IsBook b → IsBook (dropped b l)
dropped_kept b l k = dropped_at b l (is_held (lease_at b.table.leases l)) refl k

-- ---- a node is lent

names_granted : (nodes : List Node) (leases : List Lease) (x : Lease) → IsOpen nodes x.node → NameIn nodes leases → NameIn nodes (leases ++ x ∷ [])
names_granted nodes leases x o names j within =
    let P : Lease → Type 0 = λ y. (y.node < length nodes) × (is_held y ≡ true → IsOpen nodes y.node) in
    let len = length-append leases (x ∷ []) in
    ⊎_elim
    (λ less. subst P (sym (get_or_append_left leases (x ∷ []) no_lease j less)) (names j less))
    (λ past.
    let e : j ≡ length leases = omega (arith, len, within) in
    let at : lease_at (leases ++ x ∷ []) j ≡ x = grind (arith, common_steps) in
    subst P (sym at) (o.within, (λ is. o)))
    (cases_lt j (length leases))

pub granted_kept : (b : Book) (g node : ℕ) → of_grunt b.table.leases g ≡ None → IsNext b node → IsBook b → IsBook (granted b g node)
granted_kept b g node idle next k =
    let x : Lease = new_lease g node in
    let len = length-append b.table.leases (x ∷ []) in
    let log = length-append b.table.log (Grant g node ∷ []) in
    let n = counts_granted is_held b.table.leases g node in
    let m = counts_granted is_lost b.table.leases g node in
    let c = k.charged in
    let entries = c.entries in
    let done = c.done in
    let room = next.room in
    let few = next.work.few in
    let free = next.first.is_free in
    record {
      instance = k.instance;
      tour = k.tour;
      no_longer = k.no_longer;
      tree = k.tree;
      sound = k.sound;
      keys = k.keys;
      apart = apart_granted b.table.leases g node idle free.is_free k.apart;
      names = names_granted b.tree.nodes b.table.leases x free.is_open k.names;
      counted = k.counted;
      charged = record {
        within = c.within;
        grants = omega (arith, len, done, room, few);
        entries = omega (arith, len, log, n, entries);
        done = omega (arith, len, n, m, done);
        made = c.made;
      };
      replays = entries_act _ b.table.log (Grant g node) ∙ ap (λ (t : Replayed). after t (Grant g node)) k.replays;
    }

idle_if : (b : Book) (g : ℕ) (o : Option ℕ) → of_grunt b.table.leases g ≡ o → IsBook b → of_grunt (lost_if b o).table.leases g ≡ None
idle_if b g None is k = is
idle_if b g (Some l) is k = idle_after b g l is k

pub idle_released : (b : Book) (g : ℕ) → IsBook b → of_grunt (released b g).table.leases g ≡ None
idle_released b g k = idle_if b g (of_grunt b.table.leases g) refl k
