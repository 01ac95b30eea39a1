-- Who holds what, as leases come and end.
use Rattle.std.proofs.Common.{◌≡◌, ◌≢◌, ℕ, ◌+◌, ◌<◌, ◌≤◌, Bool, true, false, Option, None, Some, List, [], ◌∷◌, ◌++◌, length, set, get_or, sym, ◌∙◌, ap, subst, arith, ⊎_elim, refl, length-set, length-append, count_by, cond, ◌&&◌, ◌==◌, not}
use Rattle.std.specs.List.{AllPairs, position, position_or_len}
use Rattle.std.proofs.lemmas.List.{get_or-set_same, get_or-set_other, get_or_append_left}
use Rattle.std.proofs.lemmas.List.Sums.{sum_by-set, sum_by-append, prefix_len-le-length, prefix_len_passes, position_or_len_is}
use Rattle.std.proofs.lemmas.List.Quantifiers.{position-Some, all_pairs_push}
use Rattle.std.proofs.lemmas.List.Folds.{position_or_len-set, position_or_len_push}
use Rattle.std.proofs.lemmas.Bool.{cases_lt, cases_eq}
use Rattle.std.proofs.lemmas.Bool.Decides.{nat_tests}
use Rattle.std.proofs.lemmas.Grind.{common_steps}
use Rattle.leasebook.specs.declared.lease.LeaseFate.{LeaseFate}
use Rattle.leasebook.specs.declared.lease.Lease.{Lease}
use Rattle.leasebook.specs.declared.lease.Entry.TheVariants.{Grant, End}
use Rattle.leasebook.specs.Leases.{holder, is_held, is_held_fate, lease_at, no_lease, Apart}
use Rattle.leasebook.specs.Log.{leases_after, new_lease}
use Rattle.leasebook.specs.TableInside.{AreHolders, AreBelow}

-- ---- positions

not_true : (b : Bool) → not b ≡ true → b ≡ false
not_true true e = sym e
not_true false e = refl

passes_none : {X : Type 0} (p : X → Bool) (xs : List X) → length xs ≤ position_or_len p xs → (k : ℕ) (d : X) → k < length xs → p (get_or xs k d) ≡ false
passes_none p xs past k d within = not_true (p (get_or xs k d)) (prefix_len_passes (λ x. not (p x)) xs k d (omega (arith, past)))

pub none_passes : {X : Type 0} (p : X → Bool) (xs : List X) → position p xs ≡ None → (k : ℕ) (d : X) → k < length xs → p (get_or xs k d) ≡ false
none_passes p xs none k d within = ⊎_elim
    (λ l. absurd (grind (arith, common_steps)))
    (λ l. passes_none p xs l k d within)
    (cases_lt (position_or_len p xs) (length xs))

pub passes_none_back : {X : Type 0} (p : X → Bool) (xs : List X) (d : X) → ((k : ℕ) → k < length xs → p (get_or xs k d) ≡ false) → position p xs ≡ None
passes_none_back p xs d none =
    let e : position_or_len p xs ≡ length xs = position_or_len_is p xs (length xs) d (omega arith) none (λ l. absurd (omega arith)) in
    rw e (grind (arith, nat_tests))

same_place : {X : Type 0} (p : X → Bool) (xs : List X) (i : ℕ) (y d : X) → p y ≡ p (get_or xs i d) → position p (set xs i y) ≡ position p xs
same_place p xs i y d e =
    let a = position_or_len-set p xs i y d e in let b = length-set xs i y in
    rw (a, b) refl

other_pushed : {X : Type 0} (p : X → Bool) (xs : List X) (y : X) → p y ≡ false → position p (xs ++ y ∷ []) ≡ position p xs
other_pushed p xs y e = let a = position_or_len_push p xs y in grind (arith, nat_tests, common_steps)

this_pushed : {X : Type 0} (p : X → Bool) (xs : List X) (y : X) → p y ≡ true → position p xs ≡ None → position p (xs ++ y ∷ []) ≡ Some (length xs)
this_pushed p xs y e none = let a = position_or_len_push p xs y in let b : position_or_len p xs ≤ length xs = prefix_len-le-length (λ x. not (p x)) xs in let l = length-append xs (y ∷ []) in grind (arith, nat_tests, common_steps)

-- ---- tests of a lease

abbrev holds : (Lease → ℕ) → ℕ → Lease → Bool
holds field k l = is_held l && (field l == k)

first_true : (a b : Bool) → (a && b) ≡ true → a ≡ true
first_true true b e = refl
first_true false b e = e

second_true : (a b : Bool) → (a && b) ≡ true → b ≡ true
second_true true b e = e
second_true false b e = cc

fails : (a : Bool) (m n : ℕ) → (a && (m == n)) ≡ false → a ≡ true → m ≢ n
fails a m n e is same = grind (arith, nat_tests)

refutes : (a : Bool) (m n : ℕ) → (a ≡ true → m ≢ n) → (a && (m == n)) ≡ false
refutes true m n h = let ne : m ≢ n = h refl in grind (arith, nat_tests)
refutes false m n h = refl

not_held : (a b : Bool) → a ≡ false → (a && b) ≡ false
not_held true b e = cc
not_held false b e = refl

other_number : (a : Bool) (m n : ℕ) → m ≢ n → (a && (m == n)) ≡ false
other_number true m n ne = grind (arith, nat_tests)
other_number false m n ne = refl

-- the lease that is found is held, and has the number
pub found : (field : Lease → ℕ) (leases : List Lease) (k l : ℕ) → holder field leases k ≡ Some l
    → (l < length leases) × (is_held (lease_at leases l) ≡ true) × (field (lease_at leases l) ≡ k)
found field leases k l is =
    let p = position-Some (holds field k) leases l no_lease is in
    let s = second_true (is_held (lease_at leases l)) (field (lease_at leases l) == k) p.1 in
    (p.0, first_true (is_held (lease_at leases l)) (field (lease_at leases l) == k) p.1, grind (arith, nat_tests))

-- no lease that is held has the number
pub none_found : (field : Lease → ℕ) (leases : List Lease) (k : ℕ) → holder field leases k ≡ None
    → (l : ℕ) (d : Lease) → l < length leases → is_held (get_or leases l d) ≡ true → field (get_or leases l d) ≢ k
none_found field leases k none l d within is = fails (is_held (get_or leases l d)) (field (get_or leases l d)) k (none_passes (holds field k) leases none l d within) is

pub none_holds : (field : Lease → ℕ) (leases : List Lease) (k : ℕ)
    → ((l : ℕ) → l < length leases → is_held (lease_at leases l) ≡ true → field (lease_at leases l) ≢ k) → holder field leases k ≡ None
none_holds field leases k none = passes_none_back (holds field k) leases no_lease (λ l within. refutes (is_held (lease_at leases l)) (field (lease_at leases l)) k (none l within))

-- past the array none holds
pub none_past : (field : Lease → ℕ) (leases : List Lease) (n k : ℕ) → AreBelow field leases n → n ≤ k → holder field leases k ≡ None
none_past field leases n k below past = none_holds field leases k (λ l within is same. let b = below l within in absurd (omega (arith, b, same, past)))

-- the array tells of each number who holds it
pub looked_up : (field : Lease → ℕ) (leases : List Lease) (holders : List (Option ℕ)) (k : ℕ) → AreHolders field leases holders → AreBelow field leases (length holders) → get_or holders k None ≡ holder field leases k
looked_up field leases holders k all below = ⊎_elim
    (λ inside. all k inside)
    (λ past. let none : get_or holders k None ≡ None = grind (arith, common_steps) in none ∙ sym (none_past field leases (length holders) k below past))
    (cases_lt k (length holders))

-- ---- a lease comes

pub holders_granted : (field : Lease → ℕ) (leases : List Lease) (grunt node : ℕ) (holders : List (Option ℕ))
    → field (new_lease grunt node) < length holders → holder field leases (field (new_lease grunt node)) ≡ None → AreHolders field leases holders
    → AreHolders field (leases_after leases (Grant grunt node)) (set holders (field (new_lease grunt node)) (Some (length leases)))
holders_granted field leases grunt node holders inside free all k within =
    let y : Lease = new_lease grunt node in
    ⊎_elim
    (λ e. subst (λ i. get_or (set holders (field y) (Some (length leases))) i None ≡ holder field (leases ++ y ∷ []) i) (sym e)
    (get_or-set_same holders (field y) (Some (length leases)) None inside ∙ sym (this_pushed (holds field (field y)) leases y (grind (arith, nat_tests)) free)))
    (λ ne. get_or-set_other holders (field y) k (Some (length leases)) None ne ∙ all k (subst (λ m. k < m) (length-set holders (field y) (Some (length leases))) within)
    ∙ sym (other_pushed (holds field k) leases y (other_number true (field y) k (λ same. ne (sym same)))))
    (cases_eq k (field y))

-- the new lease holds its number, and others are held as before
pub held_by_granted : (field : Lease → ℕ) (leases : List Lease) (grunt node : ℕ) → holder field leases (field (new_lease grunt node)) ≡ None
    → holder field (leases_after leases (Grant grunt node)) (field (new_lease grunt node)) ≡ Some (length leases)
held_by_granted field leases grunt node free = this_pushed (holds field (field (new_lease grunt node))) leases (new_lease grunt node) (grind (arith, nat_tests)) free

pub others_granted : (field : Lease → ℕ) (leases : List Lease) (grunt node k : ℕ) → field (new_lease grunt node) ≢ k
    → holder field (leases_after leases (Grant grunt node)) k ≡ holder field leases k
others_granted field leases grunt node k ne = other_pushed (holds field k) leases (new_lease grunt node) (other_number true (field (new_lease grunt node)) k ne)

pub below_granted : (field : Lease → ℕ) (leases : List Lease) (grunt node n : ℕ) → field (new_lease grunt node) < n → AreBelow field leases n → AreBelow field (leases_after leases (Grant grunt node)) n
below_granted field leases grunt node n inside below l within =
    let y : Lease = new_lease grunt node in
    let len = length-append leases (y ∷ []) in
    ⊎_elim
    (λ less. subst (λ x. field x < n) (sym (get_or_append_left leases (y ∷ []) no_lease l less)) (below l less))
    (λ past.
    let e : l ≡ length leases = omega (arith, len, within) in
    let at : lease_at (leases ++ y ∷ []) l ≡ y = grind (arith, common_steps) in
    subst (λ x. field x < n) (sym at) inside)
    (cases_lt l (length leases))

pub apart_granted : (leases : List Lease) (grunt node : ℕ) → holder (λ l. l.grunt) leases grunt ≡ None → holder (λ l. l.node) leases node ≡ None
    → AllPairs Apart leases → AllPairs Apart (leases_after leases (Grant grunt node))
apart_granted leases grunt node grunt_free node_free apart =
    all_pairs_push Apart leases (new_lease grunt node) apart (λ l d within is _. (none_found (λ x. x.node) leases node node_free l d within is, none_found (λ x. x.grunt) leases grunt grunt_free l d within is))

pub counts_granted : (p : Lease → Bool) (leases : List Lease) (grunt node : ℕ)
    → count_by p (leases_after leases (Grant grunt node)) ≡ count_by p leases + cond (p (new_lease grunt node)) 1 0
counts_granted p leases grunt node = let s = sum_by-append (λ (x : Lease). cond (p x) 1 0) leases (new_lease grunt node ∷ []) in omega (arith, s)

-- ---- a lease ends

abbrev pub ended : List Lease → ℕ → LeaseFate → Lease
ended leases l fate = record (lease_at leases l) { fate = fate }

-- a lease that stands well to all takes the place of another
pairs_set : {X : Type 0} (R : X → X → Type 0) (xs : List X) (n : ℕ) (y : X) → ((z : X) → R y z) → ((z : X) → R z y) → AllPairs R xs → AllPairs R (set xs n y)
pairs_set R xs n y before behind all i j d less within =
    let inside : j < length xs = subst (λ m. j < m) (length-set xs n y) within in
    ⊎_elim
    (λ e. subst (λ z. R z (get_or (set xs n y) j d)) (sym (ap (λ k. get_or (set xs n y) k d) e ∙ get_or-set_same xs n y d (subst (λ k. k < length xs) e (omega arith)))) (before (get_or (set xs n y) j d)))
    (λ ne. ⊎_elim
    (λ e. subst (λ z. R (get_or (set xs n y) i d) z) (sym (ap (λ k. get_or (set xs n y) k d) e ∙ get_or-set_same xs n y d (subst (λ k. k < length xs) e inside))) (behind (get_or (set xs n y) i d)))
    (λ nf. subst (λ z. R z (get_or (set xs n y) j d)) (sym (get_or-set_other xs n i y d ne)) (subst (λ z. R (get_or xs i d) z) (sym (get_or-set_other xs n j y d nf)) (all i j d less inside)))
    (cases_eq j n))
    (cases_eq i n)

pub apart_ended : (leases : List Lease) (l : ℕ) (fate : LeaseFate) → is_held_fate fate ≡ false → AllPairs Apart leases → AllPairs Apart (leases_after leases (End l fate))
apart_ended leases l fate ends = pairs_set Apart leases l (ended leases l fate) (λ z is. absurd (cc)) (λ z some is. absurd (cc))

-- two leases that are held differ in this field
abbrev pub Differ : (Lease → ℕ) → Type 0
Differ field = (a b : Lease) → Apart a b → is_held a ≡ true → is_held b ≡ true → field a ≢ field b

-- once a lease ends, none holds what it held
pub none_after_end : (field : Lease → ℕ) (leases : List Lease) (l : ℕ) (fate : LeaseFate) → Differ field → is_held_fate fate ≡ false
    → l < length leases → is_held (lease_at leases l) ≡ true → AllPairs Apart leases → holder field (leases_after leases (End l fate)) (field (lease_at leases l)) ≡ None
none_after_end field leases l fate parts ends within is apart = none_holds field (leases_after leases (End l fate)) (field (lease_at leases l)) (λ j inner held same.
    let y : Lease = ended leases l fate in
    let inside : j < length leases = subst (λ m. j < m) (length-set leases l y) inner in
    ⊎_elim
    (λ e.
    let at : lease_at (set leases l y) j ≡ y = ap (λ k. lease_at (set leases l y) k) e ∙ get_or-set_same leases l y no_lease within in
    let h : is_held_fate fate ≡ true = ap is_held (sym at) ∙ held in
    cc)
    (λ ne.
    let at : lease_at (set leases l y) j ≡ lease_at leases j = get_or-set_other leases l j y no_lease ne in
    let held_j : is_held (lease_at leases j) ≡ true = ap is_held (sym at) ∙ held in
    let same_j : field (lease_at leases j) ≡ field (lease_at leases l) = ap field (sym at) ∙ same in
    ⊎_elim
    (λ less. parts (lease_at leases j) (lease_at leases l) (apart j l no_lease less within) held_j is same_j)
    (λ more. parts (lease_at leases l) (lease_at leases j) (apart l j no_lease (omega (arith, more, ne)) inside) is held_j (sym same_j))
    (cases_lt j l))
    (cases_eq j l))

-- and other numbers are held as before
pub others_after_end : (field : Lease → ℕ) (leases : List Lease) (l k : ℕ) (fate : LeaseFate) → is_held_fate fate ≡ false
    → field (lease_at leases l) ≢ k → holder field (leases_after leases (End l fate)) k ≡ holder field leases k
others_after_end field leases l k fate ends ne =
    same_place (holds field k) leases l (ended leases l fate) no_lease
    (not_held (is_held_fate fate) (field (ended leases l fate) == k) ends ∙ sym (other_number (is_held (lease_at leases l)) (field (lease_at leases l)) k ne))

pub holders_ended : (field : Lease → ℕ) (leases : List Lease) (l : ℕ) (fate : LeaseFate) (holders : List (Option ℕ)) → Differ field → is_held_fate fate ≡ false
    → l < length leases → is_held (lease_at leases l) ≡ true → AllPairs Apart leases → AreBelow field leases (length holders) → AreHolders field leases holders
    → AreHolders field (leases_after leases (End l fate)) (set holders (field (lease_at leases l)) None)
holders_ended field leases l fate holders parts ends within is apart below all k inner =
    let n : ℕ = field (lease_at leases l) in
    let inside : k < length holders = subst (λ m. k < m) (length-set holders n None) inner in
    ⊎_elim
    (λ e. subst (λ i. get_or (set holders n None) i None ≡ holder field (leases_after leases (End l fate)) i) (sym e)
    (get_or-set_same holders n None None (below l within) ∙ sym (none_after_end field leases l fate parts ends within is apart)))
    (λ ne. get_or-set_other holders n k None None ne ∙ all k inside ∙ sym (others_after_end field leases l k fate ends (λ same. ne (sym same))))
    (cases_eq k n)

pub nodes_differ : Differ (λ l. l.node)
nodes_differ a b apart one other = (apart one other).0

pub grunts_differ : Differ (λ l. l.grunt)
grunts_differ a b apart one other = (apart one other).1

-- a field that no end changes
pub below_ended : (field : Lease → ℕ) (leases : List Lease) (l : ℕ) (fate : LeaseFate) (n : ℕ) → field (ended leases l fate) ≡ field (lease_at leases l)
    → l < length leases → AreBelow field leases n → AreBelow field (leases_after leases (End l fate)) n
below_ended field leases l fate n same within below j inner =
    let y : Lease = ended leases l fate in
    let inside : j < length leases = subst (λ m. j < m) (length-set leases l y) inner in
    ⊎_elim
    (λ e.
    let at : lease_at (set leases l y) j ≡ y = ap (λ k. lease_at (set leases l y) k) e ∙ get_or-set_same leases l y no_lease within in
    subst (λ x. field x < n) (sym at) (subst (λ m. m < n) (sym same) (below l within)))
    (λ ne. subst (λ x. field x < n) (sym (get_or-set_other leases l j y no_lease ne)) (below j inside))
    (cases_eq j l)

pub counts_ended : (p : Lease → Bool) (leases : List Lease) (l : ℕ) (fate : LeaseFate) → l < length leases
    → count_by p (leases_after leases (End l fate)) + cond (p (lease_at leases l)) 1 0 ≡ count_by p leases + cond (p (ended leases l fate)) 1 0
counts_ended p leases l fate within = sum_by-set (λ (x : Lease). cond (p x) 1 0) leases l (ended leases l fate) no_lease within
