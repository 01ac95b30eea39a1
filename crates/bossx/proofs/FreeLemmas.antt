-- Which nodes take part in the tournament.
use Rattle.std.proofs.Common.{◌≡◌, ◌≢◌, ℕ, ◌+◌, ◌-◌, ◌<◌, ◌≤◌, Bool, true, false, Option, Some, None, List, [], ◌∷◌, ◌++◌, length, get_or, sym, ◌∙◌, ap, subst, arith, ⊎_elim, refl, length-set}
use Rattle.std.specs.Prelude.{ℤ, pos, replicate}
use Rattle.std.specs.List.{AllPairs}
use Rattle.std.proofs.lemmas.List.{get_or_append_left, get_or-append_right}
use Rattle.std.proofs.lemmas.Bool.{cases_lt, cases_eq, false≢true}
use Rattle.std.proofs.lemmas.Bool.Decides.{nat_tests}
use Rattle.std.proofs.lemmas.Grind.{common_steps}
use Rattle.tspdef.specs.Closings.{Closing}
use Rattle.treebook.specs.Tables.{Node, Branch, State, open_node, closed_node, split_node, open_under, node_at, parent_at, state_at, IsOpen, closed_at, split_at, with_state}
use Rattle.treebook.specs.Tree.{branch_of}
use Rattle.treebook.specs.Tree as trees
use Rattle.branchx.specs.declared.branch.Branch as branches
use Rattle.treebook.proofs.Growing.{closed_grows, closed_length, state_set, split_grows, split_length}
use Rattle.tournament.specs.Places.{Places, key_of, ComesFirst, IsLeast, NoneTakesPart}
use Rattle.pricer.specs.declared.closing.Report.{Report}
use Rattle.pricer.specs.declared.closing.Report.TheVariants as content
use Rattle.leasebook.specs.declared.lease.LeaseFate.{LeaseFate}
use Rattle.leasebook.specs.declared.lease.LeaseFate.TheVariants.{Lost}
use Rattle.leasebook.specs.declared.lease.Lease.{Lease}
use Rattle.leasebook.specs.declared.lease.Entry.TheVariants.{Grant, End, Take}
use Rattle.leasebook.specs.Leases.{is_held, is_held_fate, lease_at, of_node, Apart}
use Rattle.leasebook.specs.Log.{Table, leases_after, entered}
use Rattle.leasebook.proofs.HolderLemmas.{found, none_holds, none_after_end, others_after_end, nodes_differ, others_granted, held_by_granted}
use Rattle.bossx.specs.Books.{Book, IsFree, key_at, keys_after, tree_after, table_after, end_by, is_split, fate_by}
use Rattle.bossx.specs.Steps.{IsFirstFree}
use Rattle.bossx.specs.Answers.{key_after, AreOpenBelow}
use Rattle.bossx.specs.BossInside.{AreFree}
use Rattle.bossx.proofs.LendingLemmas.{NameIn}
use Rattle.bossx.proofs.SettlingLemmas.{end_by_ends, fate_ends}

same_some : {X : Type 0} {x y : X} → Some x ≡ Some y → x ≡ y
same_some e = cc

not_none : {X : Type 0} {x : X} → None ≡ Some x → ⊥
not_none e = cc

-- ---- the least

pub least_is_first : (b : Book) (places : Places) (k : ℕ) → AreFree b.tree.nodes b.table.leases b.keys places → IsLeast places k → IsFirstFree b k
least_is_first b places k free least =
    let t = free.told k least.key least.takes_part in
    record {
      is_free = t.0;
      first = λ j is. subst (λ (y : ℤ). ComesFirst y k (key_at b.keys j) j) t.1 (least.first j (key_at b.keys j) (free.all j is));
    }

pub none_is_free : (nodes : List Node) (leases : List Lease) (keys : List ℤ) (places : Places) → AreFree nodes leases keys places → NoneTakesPart places → (k : ℕ) → IsFree nodes leases k → ⊥
none_is_free nodes leases keys places free none k is = not_none (sym (none k) ∙ free.all k is)

-- ---- the start

zero_at : (n k : ℕ) → key_at (replicate n (pos 0)) k ≡ pos 0
zero_at n k = grind (arith, common_steps)

pub first_free : (nodes : List Node) (places : Places) → AreOpenBelow nodes (length nodes) places → AreFree nodes [] (replicate (length nodes) (pos 0)) places
first_free nodes places begun = record {
  told = λ k y is. let t = begun.told k y is in (record { is_open = t.1; is_free = refl }, t.2 ∙ sym (zero_at (length nodes) k));
  all = λ k is. begun.all k is.is_open.within is.is_open ∙ ap Some (sym (zero_at (length nodes) k));
}

-- one node more is looked at: it is open, and takes part
pub open_more : (nodes : List Node) (n : ℕ) (p q : Places) → IsOpen nodes n → key_of q n ≡ Some (pos 0) → ((k : ℕ) → k ≢ n → key_of q k ≡ key_of p k) → AreOpenBelow nodes n p → AreOpenBelow nodes (n + 1) q
open_more nodes n p q o here others a = record {
  told = λ k y e. ⊎_elim
      (λ (eq : k ≡ n). (omega (arith, eq), subst (IsOpen nodes) (sym eq) o, same_some (sym (subst (λ (m : ℕ). key_of q m ≡ Some y) eq e) ∙ here)))
      (λ ne. let t = a.told k y (sym (others k ne) ∙ e) in let less = t.0 in (omega (arith, less), t.1, t.2))
      (cases_eq k n);
  all = λ k less is. ⊎_elim
      (λ eq. subst (λ (m : ℕ). key_of q m ≡ Some (pos 0)) (sym eq) here)
      (λ ne. others k ne ∙ a.all k (omega (arith, less, ne)) is)
      (cases_eq k n);
}

-- or it is not open
pub shut_more : (nodes : List Node) (n : ℕ) (p : Places) → (IsOpen nodes n → ⊥) → AreOpenBelow nodes n p → AreOpenBelow nodes (n + 1) p
shut_more nodes n p shut a = record {
  told = λ k y e. let t = a.told k y e in let less = t.0 in (omega (arith, less), t.1, t.2);
  all = λ k less is. ⊎_elim
      (λ eq. absurd (shut (subst (IsOpen nodes) eq is)))
      (λ ne. a.all k (omega (arith, less, ne)) is)
      (cases_eq k n);
}

pub none_open_yet : (nodes : List Node) (p : Places) → NoneTakesPart p → AreOpenBelow nodes 0 p
none_open_yet nodes p none = record {
  told = λ k y e. absurd (not_none (sym (none k) ∙ e));
  all = λ k less is. absurd (omega (arith, less));
}

-- ---- a lease ends

pub free_lost : (nodes : List Node) (leases : List Lease) (keys : List ℤ) (l : ℕ) (p q : Places) → l < length leases → is_held (lease_at leases l) ≡ true → AllPairs Apart leases → NameIn nodes leases
    → key_of q (lease_at leases l).node ≡ Some (key_at keys (lease_at leases l).node) → ((k : ℕ) → k ≢ (lease_at leases l).node → key_of q k ≡ key_of p k)
    → AreFree nodes leases keys p → AreFree nodes (leases_after leases (End l Lost)) keys q
free_lost nodes leases keys l p q within is apart names here others free =
    let node = (lease_at leases l).node in
    let none : of_node (leases_after leases (End l Lost)) node ≡ None = none_after_end (λ x. x.node) leases l Lost nodes_differ refl within is apart in
    let same : (k : ℕ) → k ≢ node → of_node (leases_after leases (End l Lost)) k ≡ of_node leases k = λ k ne. others_after_end (λ x. x.node) leases l k Lost refl (λ e. ne (sym e)) in
    record {
      told = λ k y e. ⊎_elim
          (λ (eq : k ≡ node).
          let at : key_of q node ≡ Some y = subst (λ (n : ℕ). key_of q n ≡ Some y) eq e in
          (subst (IsFree nodes (leases_after leases (End l Lost))) (sym eq) (record { is_open = (names l within).1 is; is_free = none }), same_some (sym at ∙ here) ∙ ap (key_at keys) (sym eq)))
          (λ ne. let t = free.told k y (sym (others k ne) ∙ e) in (record { is_open = t.0.is_open; is_free = same k ne ∙ t.0.is_free }, t.1))
          (cases_eq k node);
      all = λ k f. ⊎_elim
          (λ eq. subst (λ (n : ℕ). key_of q n ≡ Some (key_at keys n)) (sym eq) here)
          (λ ne. others k ne ∙ free.all k (record { is_open = f.is_open; is_free = sym (same k ne) ∙ f.is_free }))
          (cases_eq k node);
    }

-- ---- a node is lent

pub free_granted : (nodes : List Node) (leases : List Lease) (keys : List ℤ) (g node : ℕ) (p q : Places) → of_node leases node ≡ None
    → key_of q node ≡ None → ((k : ℕ) → k ≢ node → key_of q k ≡ key_of p k)
    → AreFree nodes leases keys p → AreFree nodes (leases_after leases (Grant g node)) keys q
free_granted nodes leases keys g node p q idle here others free =
    let same : (k : ℕ) → k ≢ node → of_node (leases_after leases (Grant g node)) k ≡ of_node leases k = λ k ne. others_granted (λ x. x.node) leases g node k (λ e. ne (sym e)) in
    let held : of_node (leases_after leases (Grant g node)) node ≡ Some (length leases) = held_by_granted (λ x. x.node) leases g node idle in
    record {
      told = λ k y e. ⊎_elim
          (λ (eq : k ≡ node). absurd (not_none (sym here ∙ subst (λ (n : ℕ). key_of q n ≡ Some y) eq e)))
          (λ ne. let t = free.told k y (sym (others k ne) ∙ e) in (record { is_open = t.0.is_open; is_free = same k ne ∙ t.0.is_free }, t.1))
          (cases_eq k node);
      all = λ k f. ⊎_elim
          (λ (eq : k ≡ node). absurd (not_none (sym (subst (λ (n : ℕ). of_node (leases_after leases (Grant g node)) n ≡ None) eq f.is_free) ∙ held)))
          (λ ne. others k ne ∙ free.all k (record { is_open = f.is_open; is_free = sym (same k ne) ∙ f.is_free }))
          (cases_eq k node);
    }

-- ---- a node is settled, and its lease has ended: of other nodes the same are held

pub record IsEndedAt (nodes : List Node) (node : ℕ) (leases more : List Lease) : Type 0 where
  pub others : (k : ℕ) → k ≢ node → of_node more k ≡ of_node leases k
  pub past : (k : ℕ) → length nodes ≤ k → of_node more k ≡ None

past_none : (nodes : List Node) (leases : List Lease) → NameIn nodes leases → (k : ℕ) → length nodes ≤ k → of_node leases k ≡ None
past_none nodes leases names k past = none_holds (λ x. x.node) leases k (λ l within is same. let b = (names l within).0 in absurd (omega (arith, b, same, past)))

pub not_ended : (nodes : List Node) (node : ℕ) (leases : List Lease) → NameIn nodes leases → IsEndedAt nodes node leases leases
not_ended nodes node leases names = record { others = λ k ne. refl; past = past_none nodes leases names }

pub ended_at : (nodes : List Node) (node : ℕ) (leases : List Lease) (l : ℕ) (f : LeaseFate) → is_held_fate f ≡ false → (lease_at leases l).node ≡ node
    → node < length nodes → NameIn nodes leases → IsEndedAt nodes node leases (leases_after leases (End l f))
ended_at nodes node leases l f ends at inside names =
    let same : (k : ℕ) → k ≢ node → of_node (leases_after leases (End l f)) k ≡ of_node leases k = λ k ne. others_after_end (λ x. x.node) leases l k f ends (λ e. ne (sym e ∙ at)) in
    record { others = same; past = λ k past. same k (λ e. absurd (omega (arith, e, past, inside))) ∙ past_none nodes leases names k past }

-- ---- which nodes are open afterwards

abbrev opens : State → Bool
opens open_node = true
opens (closed_node c) = false
opens (split_node b child) = false

closed_apart : (c : Closing) → closed_node c ≡ open_node → ⊥
closed_apart c e = false≢true (ap opens e)

split_apart : (b : Branch) (child : ℕ) → split_node b child ≡ open_node → ⊥
split_apart b child e = false≢true (ap opens e)

closed_open : (nodes : List Node) (node k : ℕ) (c : Closing) → node < length nodes → k ≢ node → IsOpen nodes k → IsOpen (closed_at nodes node c) k
closed_open nodes node k c inside ne o =
    let len = closed_length nodes node c in let within = o.within in
    record { within = omega (arith, len, within); is_open = (closed_grows nodes node c inside).states k within ne ∙ o.is_open }

closed_was : (nodes : List Node) (node k : ℕ) (c : Closing) → node < length nodes → IsOpen (closed_at nodes node c) k → (k ≢ node) × IsOpen nodes k
closed_was nodes node k c inside o =
    let len = closed_length nodes node c in let within = o.within in
    let inner : k < length nodes = omega (arith, len, within) in
    let ne : k ≢ node = λ e. closed_apart c (sym (state_set nodes node (closed_node c) inside) ∙ subst (λ (n : ℕ). state_at (closed_at nodes node c) n ≡ open_node) e o.is_open) in
    (ne, record { within = inner; is_open = sym ((closed_grows nodes node c inside).states k inner ne) ∙ o.is_open })

split_old : (nodes : List Node) (k : ℕ) (b : Branch) (j : ℕ) → j < length nodes → node_at (split_at nodes k b) j ≡ node_at (with_state nodes k (split_node b (length nodes))) j
split_old nodes k b j m =
    let len = length-set nodes k (record { parent = parent_at nodes k; state = split_node b (length nodes) }) in
    get_or_append_left (with_state nodes k (split_node b (length nodes))) (open_under k ∷ open_under k ∷ []) (open_under 0) j (omega (arith, len, m))

split_new : (nodes : List Node) (k : ℕ) (b : Branch) (j : ℕ) → length nodes ≤ j → j < length nodes + 2 → node_at (split_at nodes k b) j ≡ open_under k
split_new nodes k b j x y =
    let len = length-set nodes k (record { parent = parent_at nodes k; state = split_node b (length nodes) }) in
    get_or-append_right (with_state nodes k (split_node b (length nodes))) (open_under k ∷ open_under k ∷ []) (length nodes) j (open_under 0) len x
    ∙ ⊎_elim
    (λ e. ap (λ (i : ℕ). get_or (open_under k ∷ open_under k ∷ []) i (open_under 0)) e)
    (λ ne. let e : j - length nodes ≡ 1 = omega arith in ap (λ (i : ℕ). get_or (open_under k ∷ open_under k ∷ []) i (open_under 0)) e)
    (cases_eq (j - length nodes) 0)

split_open : (nodes : List Node) (node k : ℕ) (b : Branch) → node < length nodes → k ≢ node → IsOpen nodes k → IsOpen (split_at nodes node b) k
split_open nodes node k b inside ne o =
    let len = split_length nodes node b in let within = o.within in
    record { within = omega (arith, len, within); is_open = (split_grows nodes node b inside).states k within ne ∙ o.is_open }

-- a new node is open
child_open : (nodes : List Node) (node k : ℕ) (b : Branch) → length nodes ≤ k → k < length nodes + 2 → IsOpen (split_at nodes node b) k
child_open nodes node k b past few =
    let len = split_length nodes node b in
    record { within = omega (arith, len, few); is_open = ap (λ (z : Node). z.state) (split_new nodes node b k past few) }

split_was : (nodes : List Node) (node k : ℕ) (b : Branch) → node < length nodes → k < length nodes → IsOpen (split_at nodes node b) k → (k ≢ node) × IsOpen nodes k
split_was nodes node k b inside inner o =
    let state : state_at (split_at nodes node b) node ≡ split_node b (length nodes) = ap (λ (x : Node). x.state) (split_old nodes node b node inside) ∙ state_set nodes node (split_node b (length nodes)) inside in
    let ne : k ≢ node = λ e. split_apart b (length nodes) (sym state ∙ subst (λ (n : ℕ). state_at (split_at nodes node b) n ≡ open_node) e o.is_open) in
    (ne, record { within = inner; is_open = sym ((split_grows nodes node b inside).states k inner ne) ∙ o.is_open })

-- ---- who takes part afterwards

closed_here : (p : Places) (nodes : List Node) (node : ℕ) (c : Closing) (key : ℤ) → key_after p nodes node (content.Closed c) key node ≡ None
closed_here p nodes node c key = grind (arith, nat_tests)

closed_other : (p : Places) (nodes : List Node) (node : ℕ) (c : Closing) (key : ℤ) (k : ℕ) → k ≢ node → key_after p nodes node (content.Closed c) key k ≡ key_of p k
closed_other p nodes node c key k ne = grind (arith, nat_tests)

split_child : (p : Places) (nodes : List Node) (node : ℕ) (b : branches.Branch) (key : ℤ) (k : ℕ) → length nodes ≤ k → k < length nodes + 2 → key_after p nodes node (content.Split b) key k ≡ Some key
split_child p nodes node b key k past few = ⊎_elim
    (λ (e : k ≡ length nodes). grind (arith, nat_tests))
    (λ ne. let e : k ≡ length nodes + 1 = omega (arith, past, few, ne) in grind (arith, nat_tests))
    (cases_eq k (length nodes))

split_here : (p : Places) (nodes : List Node) (node : ℕ) (b : branches.Branch) (key : ℤ) → node < length nodes → key_after p nodes node (content.Split b) key node ≡ None
split_here p nodes node b key inside = let x : node ≢ length nodes = omega (arith, inside) in let y : node ≢ length nodes + 1 = omega (arith, inside) in grind (arith, nat_tests)

split_other : (p : Places) (nodes : List Node) (node : ℕ) (b : branches.Branch) (key : ℤ) (k : ℕ) → k ≢ node → k ≢ length nodes → k ≢ length nodes + 1 → key_after p nodes node (content.Split b) key k ≡ key_of p k
split_other p nodes node b key k ne x y = grind (arith, nat_tests)

old_key : (keys : List ℤ) (key : ℤ) (k : ℕ) → k < length keys → key_at (keys ++ key ∷ key ∷ []) k ≡ key_at keys k
old_key keys key k within = get_or_append_left keys (key ∷ key ∷ []) (pos 0) k within

new_key : (keys : List ℤ) (key : ℤ) (k : ℕ) → length keys ≤ k → k < length keys + 2 → key_at (keys ++ key ∷ key ∷ []) k ≡ key
new_key keys key k past few =
    get_or-append_right keys (key ∷ key ∷ []) (length keys) k (pos 0) refl past
    ∙ ⊎_elim
    (λ e. ap (λ (i : ℕ). get_or (key ∷ key ∷ []) i (pos 0)) e)
    (λ ne. let e : k - length keys ≡ 1 = omega arith in ap (λ (i : ℕ). get_or (key ∷ key ∷ []) i (pos 0)) e)
    (cases_eq (k - length keys) 0)

pub free_taken : (t : trees.Table) (leases more : List Lease) (keys : List ℤ) (node : ℕ) (r : Report) (key : ℤ) (p q : Places) → node < length t.nodes → length keys ≡ length t.nodes
    → IsEndedAt t.nodes node leases more → ((k : ℕ) → key_of q k ≡ key_after p t.nodes node r key k)
    → AreFree t.nodes leases keys p → AreFree (tree_after t node r).nodes more (keys_after keys key r) q
free_taken t leases more keys node (content.Closed c) key p q inside long ended after free = record {
  told = λ k y e. ⊎_elim
      (λ (eq : k ≡ node). absurd (not_none (sym (closed_here p t.nodes node c key) ∙ sym (after node) ∙ subst (λ (n : ℕ). key_of q n ≡ Some y) eq e)))
      (λ ne.
      let f = free.told k y (sym (closed_other p t.nodes node c key k ne) ∙ sym (after k) ∙ e) in
      (record { is_open = closed_open t.nodes node k c inside ne f.0.is_open; is_free = ended.others k ne ∙ f.0.is_free }, f.1))
      (cases_eq k node);
  all = λ k f.
      let o = closed_was t.nodes node k c inside f.is_open in
      after k ∙ closed_other p t.nodes node c key k o.0 ∙ free.all k (record { is_open = o.1; is_free = sym (ended.others k o.0) ∙ f.is_free });
}
free_taken t leases more keys node (content.Split b) key p q inside long ended after free =
    let nodes = t.nodes in
    let d = branch_of b in
    record {
      told = λ k y e. ⊎_elim
          (λ less. ⊎_elim
          (λ (eq : k ≡ node). absurd (not_none (sym (split_here p nodes node b key inside) ∙ sym (after node) ∙ subst (λ (n : ℕ). key_of q n ≡ Some y) eq e)))
          (λ ne.
          let f = free.told k y (sym (split_other p nodes node b key k ne (omega (arith, less)) (omega (arith, less))) ∙ sym (after k) ∙ e) in
          (record { is_open = split_open nodes node k d inside ne f.0.is_open; is_free = ended.others k ne ∙ f.0.is_free }, f.1 ∙ sym (old_key keys key k (omega (arith, less, long)))))
          (cases_eq k node))
          (λ past. ⊎_elim
          (λ few. (record { is_open = child_open nodes node k d past few; is_free = ended.past k past }, same_some (sym e ∙ after k ∙ split_child p nodes node b key k past few) ∙ sym (new_key keys key k (omega (arith, past, long)) (omega (arith, few, long)))))
          (λ many.
          let f = free.told k y (sym (split_other p nodes node b key k (omega (arith, past, inside)) (omega (arith, many)) (omega (arith, many))) ∙ sym (after k) ∙ e) in
          let within = f.0.is_open.within in
          absurd (omega (arith, within, past)))
          (cases_lt k (length nodes + 2)))
          (cases_lt k (length nodes));
      all = λ k f. ⊎_elim
          (λ less.
          let o = split_was nodes node k d inside less f.is_open in
          after k ∙ split_other p nodes node b key k o.0 (omega (arith, less)) (omega (arith, less)) ∙ free.all k (record { is_open = o.1; is_free = sym (ended.others k o.0) ∙ f.is_free }) ∙ ap Some (sym (old_key keys key k (omega (arith, less, long)))))
          (λ past.
          let len = split_length nodes node d in let within = f.is_open.within in
          let few : k < length nodes + 2 = omega (arith, len, within) in
          after k ∙ split_child p nodes node b key k past few ∙ ap Some (sym (new_key keys key k (omega (arith, past, long)) (omega (arith, few, long)))))
          (cases_lt k (length nodes));
    }

-- the leases once a node is settled: the one that held it, if there was one, has ended
ends_at : (nodes : List Node) (node : ℕ) (t : Table) (split : Bool) (o by : Option ℕ) (f : LeaseFate) → is_held_fate f ≡ false → of_node t.leases node ≡ o → node < length nodes → NameIn nodes t.leases
    → IsEndedAt nodes node t.leases (table_after (entered t (Take node split)) o by f).leases
ends_at nodes node t split None by f ends is inside names = not_ended nodes node t.leases names
ends_at nodes node t split (Some l) by f ends is inside names =
    let h = found (λ x. x.node) t.leases node l is in
    ended_at nodes node t.leases l (end_by by l f) (end_by_ends by l f ends) h.2 inside names

pub taken_ends : (nodes : List Node) (node : ℕ) (t : Table) (r : Report) (by : Option ℕ) → node < length nodes → NameIn nodes t.leases
    → IsEndedAt nodes node t.leases (table_after (entered t (Take node (is_split r))) (of_node t.leases node) by (fate_by r)).leases
taken_ends nodes node t r by inside names = ends_at nodes node t (is_split r) (of_node t.leases node) by (fate_by r) (fate_ends r) refl inside names
