-- What a book keeps as nodes are closed and split.
use Rattle.std.proofs.Common.{◌≡◌, ◌≢◌, ℕ, ◌+◌, ◌<◌, ◌≤◌, Bool, true, false, cond, ◌==◌, Option, Some, None, List, [], ◌∷◌, ◌++◌, length, set, sym, ◌∙◌, ap, subst, arith, refl, length-append}
use Rattle.std.specs.Prelude.{ℤ, ◌<ℤ◌}
use Rattle.std.specs.List.{AllPairs}
use Rattle.std.proofs.lemmas.List.{map-set, map-append}
use Rattle.tspdef.specs.Instances.{Instance}
use Rattle.tspdef.specs.Paths.{Condition}
use Rattle.tspdef.specs.Bounds.{bound, needed}
use Rattle.tspdef.specs.Closings.{Fits}
use Rattle.tspdef.specs.Trees.{settled, IsSoundFor}
use Rattle.tspdef.proofs.Duality.{fitting_is_closing}
use Rattle.treebook.specs.Tables.{Node, closed_node, split_node, open_under, state_at, parent_at, path_at, tree_of, IsTable, IsOpen, MaySplit, with_state}
use Rattle.treebook.specs.Tree.{branch_of}
use Rattle.treebook.specs.Tree as trees
use Rattle.treebook.proofs.Growing.{closed_grows, closed_length, split_grows, split_length, closing_keeps_tables, splitting_keeps_tables}
use Rattle.treebook.proofs.Covering.{closing_keeps_sound, splitting_keeps_sound}
use Rattle.branchx.specs.declared.branch.Branch.{Branch}
use Rattle.branchx.specs.declared.branch.Branch.TheVariants.{Edge, Clique}
use Rattle.pricer.specs.declared.closing.Report.{Report}
use Rattle.pricer.specs.declared.closing.Report.TheVariants as content
use Rattle.leasebook.specs.declared.lease.LeaseFate.{LeaseFate}
use Rattle.leasebook.specs.declared.lease.LeaseFate.TheVariants.{Lost}
use Rattle.leasebook.specs.declared.lease.Lease.{Lease}
use Rattle.leasebook.specs.declared.lease.Entry.TheVariants.{End, Take}
use Rattle.leasebook.specs.Leases.{is_held, is_held_fate, lease_at, no_lease, of_node, Apart}
use Rattle.leasebook.specs.Log.{NodeKind, open_kind, Replayed, Table, after, leases_after, kinds_after, entered}
use Rattle.leasebook.proofs.LogLemmas.{entries_act}
use Rattle.leasebook.proofs.HolderLemmas.{found, none_found, apart_ended, none_after_end, nodes_differ}
use Rattle.bossx.specs.declared.brought.Brought.{Brought}
use Rattle.bossx.specs.declared.brought.Brought.TheVariants.{Plain, Hinted, Weighed}
use Rattle.bossx.specs.Books.{Book, level, path_in, content_of, key_from, key_at, is_split, fate_by, tree_after, keys_after, table_after, end_by, taken}
use Rattle.bossx.specs.Judging.{MayBeTaken, Suffices, BranchFits, ReportFits, BroughtFits}
use Rattle.bossx.specs.Kept.{kind_of, kinds, IsTreeOf, IsBook, Replays}
use Rattle.bossx.proofs.LendingLemmas.{NameIn, names_ended, fewer_held, more_lost, ended_length}

-- ---- what fits a node may settle it

branch_may : (n : ℕ) (path : List Condition) (branch : Branch) → BranchFits n path branch → MaySplit n path (branch_of branch)
branch_may n path (Edge u v) f = (f.pair, f.undecided)
branch_may n path (Clique set) f = f.proper

-- what a report says fits the node
abbrev pub ContentFits : Book → ℕ → Report → Type 0
ContentFits b node (content.Closed c) = Fits b.instance.n (path_in b node) c
ContentFits b node (content.Split branch) = MaySplit b.instance.n (path_in b node) (branch_of branch)

report_may : (b : Book) (node : ℕ) (r : Report) → ReportFits b.instance.n (path_in b node) r → ContentFits b node r
report_may b node (content.Closed c) f = f
report_may b node (content.Split branch) f = branch_may b.instance.n (path_in b node) branch f

pub content_fits : (b : Book) (node : ℕ) (what : Brought) → BroughtFits b node what → ContentFits b node (content_of what)
content_fits b node (Plain r) f = report_may b node r f
content_fits b node (Hinted branch hint) f = branch_may b.instance.n (path_in b node) branch f
content_fits b node (Weighed p) f = f.1

-- ---- the nodes afterwards

-- how many nodes a report makes
abbrev pub made_by : Report → ℕ
made_by (content.Closed c) = 0
made_by (content.Split branch) = 2

pub record IsGrown (b : Book) (node : ℕ) (r : Report) : Type 0 where
  pub is_table : IsTable b.instance.n b.instance.fixed (tree_after b.tree node r).nodes
  pub sound : IsSoundFor b.instance (level b) (tree_of (tree_after b.tree node r).nodes)
  pub one_more : settled (tree_of (tree_after b.tree node r).nodes) ≡ settled (tree_of b.tree.nodes) + 1
  pub long : length (tree_after b.tree node r).nodes ≡ length b.tree.nodes + made_by r
  pub states : (j : ℕ) → j < length b.tree.nodes → j ≢ node → state_at (tree_after b.tree node r).nodes j ≡ state_at b.tree.nodes j
  pub kinds : kinds (tree_after b.tree node r).nodes ≡ kinds_after (kinds b.tree.nodes) (Take node (is_split r))

pub grown : (b : Book) (node : ℕ) (r : Report) → IsOpen b.tree.nodes node → ContentFits b node r → Suffices b node r → IsBook b → IsGrown b node r
grown b node (content.Closed c) o fits enough k =
    let t = k.tree.is_table in
    let f : Fits b.instance.n (path_at b.instance.fixed b.tree.nodes node) c = subst (λ (ps : List (ℕ × ℕ)). Fits b.instance.n (path_at ps b.tree.nodes node) c) k.tree.fixed fits in
    let s : needed (level b) <ℤ (bound b.instance (path_at b.instance.fixed b.tree.nodes node) c) = subst (λ (ps : List (ℕ × ℕ)). needed (level b) <ℤ (bound b.instance (path_at ps b.tree.nodes node) c)) k.tree.fixed enough in
    let law = closing_keeps_tables b.instance.n b.instance.fixed b.tree.nodes node c t o f in
    let len = closed_length b.tree.nodes node c in
    record {
      is_table = law.is_table;
      sound = closing_keeps_sound fitting_is_closing b.instance b.tree.nodes node c (level b) t o f s k.sound;
      one_more = law.settled_now;
      long = omega (arith, len);
      states = (closed_grows b.tree.nodes node c o.within).states;
      kinds = map-set (λ (x : Node). kind_of x.state) b.tree.nodes node (record { parent = parent_at b.tree.nodes node; state = closed_node c });
    }
grown b node (content.Split branch) o may enough k =
    let t = k.tree.is_table in
    let d = branch_of branch in
    let f : MaySplit b.instance.n (path_at b.instance.fixed b.tree.nodes node) d = subst (λ (ps : List (ℕ × ℕ)). MaySplit b.instance.n (path_at ps b.tree.nodes node) d) k.tree.fixed may in
    let law = splitting_keeps_tables b.instance.n b.instance.fixed b.tree.nodes node d t o f in
    record {
      is_table = law.is_table;
      sound = splitting_keeps_sound b.instance b.tree.nodes node d (level b) t o f k.sound;
      one_more = law.settled_now;
      long = split_length b.tree.nodes node d;
      states = (split_grows b.tree.nodes node d o.within).states;
      kinds = map-append (λ (x : Node). kind_of x.state) (with_state b.tree.nodes node (split_node d (length b.tree.nodes))) (open_under node ∷ open_under node ∷ [])
          ∙ ap (λ (ks : List NodeKind). ks ++ open_kind ∷ open_kind ∷ []) (map-set (λ (x : Node). kind_of x.state) b.tree.nodes node (record { parent = parent_at b.tree.nodes node; state = split_node d (length b.tree.nodes) }));
    }

keys_long : (keys : List ℤ) (key : ℤ) (r : Report) → length (keys_after keys key r) ≡ length keys + made_by r
keys_long keys key (content.Closed c) = omega arith
keys_long keys key (content.Split branch) = length-append keys (key ∷ key ∷ [])

two_at_most : (r : Report) → made_by r ≤ 2
two_at_most (content.Closed c) = omega arith
two_at_most (content.Split branch) = omega arith

same_tree : (i : Instance) (t : trees.Table) (node : ℕ) (r : Report) → IsTreeOf i t → IsTable i.n i.fixed (tree_after t node r).nodes → IsTreeOf i (tree_after t node r)
same_tree i t node (content.Closed c) k u = record { cities = k.cities; fixed = k.fixed; is_table = u }
same_tree i t node (content.Split branch) k u = record { cities = k.cities; fixed = k.fixed; is_table = u }

-- no lease that is held is of this node
abbrev pub NoneHolds : List Lease → ℕ → Type 0
NoneHolds leases node = (l : ℕ) → l < length leases → is_held (lease_at leases l) ≡ true → (lease_at leases l).node ≢ node

names_grown : (b : Book) (node : ℕ) (r : Report) (leases : List Lease) → IsGrown b node r → NoneHolds leases node → NameIn b.tree.nodes leases → NameIn (tree_after b.tree node r).nodes leases
names_grown b node r leases g free names l within =
    let in_old = (names l within).0 in
    let long = g.long in
    let inside : (lease_at leases l).node < length (tree_after b.tree node r).nodes = omega (arith, in_old, long) in
    (inside, (λ is. record { within = inside; is_open = g.states (lease_at leases l).node in_old (free l within is) ∙ ((names l within).1 is).is_open }))

-- ---- the book afterwards, once the node's lease has ended

abbrev pub settled_with : Book → ℕ → Brought → Table → Book
settled_with b node what t = record b {
  tree = tree_after b.tree node (content_of what);
  keys = keys_after b.keys (key_from what (key_at b.keys node)) (content_of what);
  table = t;
  settled = b.settled + 1;
}

abbrev pub took : Book → ℕ → Brought → Table
took b node what = entered b.table (Take node (is_split (content_of what)))

abbrev replayed : List NodeKind → List Lease → ℕ → Replayed
replayed ks leases n = record { kinds = ks; leases = leases; settled = n }

replays_took : (b : Book) (node : ℕ) (what : Brought) → IsGrown b node (content_of what) → Replays b → Replays (settled_with b node what (took b node what))
replays_took b node what g k =
    let e = Take node (is_split (content_of what)) in
    entries_act _ b.table.log e ∙ ap (λ (t : Replayed). after t e) k ∙ ap (λ (ks : List NodeKind). replayed ks b.table.leases (b.settled + 1)) (sym g.kinds)

taken_free : (b : Book) (node : ℕ) (what : Brought) → of_node b.table.leases node ≡ None → MayBeTaken b node what → IsBook b → IsBook (settled_with b node what (took b node what))
taken_free b node what none may k =
    let r = content_of what in
    let g = grown b node r may.ready.is_open (content_fits b node what may.fits) may.suffices k in
    let log = length-append b.table.log (Take node (is_split r) ∷ []) in
    let c = k.charged in
    let entries = c.entries in let done = c.done in let made = c.made in let left = may.ready.left in
    let long = g.long in let two = two_at_most r in let more = g.one_more in let counted = k.counted in
    let keys = keys_long b.keys (key_from what (key_at b.keys node)) r in let same = k.keys in
    record {
      instance = k.instance;
      tour = k.tour;
      no_longer = k.no_longer;
      tree = same_tree b.instance b.tree node r k.tree g.is_table;
      sound = g.sound;
      keys = omega (arith, keys, same, long);
      apart = k.apart;
      names = names_grown b node r b.table.leases g (λ l within is. none_found (λ x. x.node) b.table.leases node none l no_lease within is) k.names;
      counted = omega (arith, more, counted);
      charged = record {
        within = omega (arith, left);
        grants = c.grants;
        entries = omega (arith, log, entries);
        done = omega (arith, done);
        made = omega (arith, made, long, two);
      };
      replays = replays_took b node what g k.replays;
    }

none_after : (leases : List Lease) (l node : ℕ) (f : LeaseFate) → is_held_fate f ≡ false → (l < length leases) × (is_held (lease_at leases l) ≡ true) × ((lease_at leases l).node ≡ node) → AllPairs Apart leases
    → NoneHolds (leases_after leases (End l f)) node
none_after leases l node f ends is apart j within held =
    let none : of_node (leases_after leases (End l f)) node ≡ None = subst (λ (n : ℕ). of_node (leases_after leases (End l f)) n ≡ None) is.2 (none_after_end (λ x. x.node) leases l f nodes_differ ends is.0 is.1 apart) in
    none_found (λ x. x.node) (leases_after leases (End l f)) node none j no_lease within held

taken_ended : (b : Book) (node : ℕ) (what : Brought) (l : ℕ) (f : LeaseFate) → is_held_fate f ≡ false → of_node b.table.leases node ≡ Some l → MayBeTaken b node what → IsBook b
    → IsBook (settled_with b node what (entered (took b node what) (End l f)))
taken_ended b node what l f ends is may k =
    let r = content_of what in
    let h = found (λ x. x.node) b.table.leases node l is in
    let g = grown b node r may.ready.is_open (content_fits b node what may.fits) may.suffices k in
    let len = ended_length b.table.leases l f in
    let log = length-append b.table.log (Take node (is_split r) ∷ []) in
    let more_log = length-append (b.table.log ++ Take node (is_split r) ∷ []) (End l f ∷ []) in
    let n = fewer_held b.table.leases l f ends h.0 h.1 in
    let m = more_lost b.table.leases l f h.0 h.1 in
    let c = k.charged in
    let entries = c.entries in let done = c.done in let made = c.made in let grants = c.grants in let left = may.ready.left in
    let long = g.long in let two = two_at_most r in let more = g.one_more in let counted = k.counted in
    let keys = keys_long b.keys (key_from what (key_at b.keys node)) r in let same = k.keys in
    record {
      instance = k.instance;
      tour = k.tour;
      no_longer = k.no_longer;
      tree = same_tree b.instance b.tree node r k.tree g.is_table;
      sound = g.sound;
      keys = omega (arith, keys, same, long);
      apart = apart_ended b.table.leases l f ends k.apart;
      names = names_grown b node r (leases_after b.table.leases (End l f)) g (none_after b.table.leases l node f ends h k.apart) (names_ended b.tree.nodes b.table.leases l f ends k.names);
      counted = omega (arith, more, counted);
      charged = record {
        within = omega (arith, left);
        grants = omega (arith, len, grants);
        entries = omega (arith, len, log, more_log, n, entries);
        done = omega (arith, len, n, m, done);
        made = omega (arith, made, long, two);
      };
      replays = entries_act _ (b.table.log ++ Take node (is_split r) ∷ []) (End l f) ∙ ap (λ (t : Replayed). after t (End l f)) (replays_took b node what g k.replays);
    }

pub fate_ends : (r : Report) → is_held_fate (fate_by r) ≡ false
fate_ends (content.Closed c) = refl
fate_ends (content.Split branch) = refl

own_fate : (same : Bool) (f : LeaseFate) → is_held_fate f ≡ false → is_held_fate (cond same f Lost) ≡ false
own_fate true f e = e
own_fate false f e = refl

pub end_by_ends : (by : Option ℕ) (holder : ℕ) (f : LeaseFate) → is_held_fate f ≡ false → is_held_fate (end_by by holder f) ≡ false
end_by_ends None holder f e = refl
end_by_ends (Some lease) holder f e = own_fate (holder == lease) f e

taken_at : (b : Book) (by : Option ℕ) (node : ℕ) (what : Brought) (o : Option ℕ) → of_node b.table.leases node ≡ o → MayBeTaken b node what → IsBook b
    → IsBook (settled_with b node what (table_after (took b node what) o by (fate_by (content_of what))))
taken_at b by node what None is may k = taken_free b node what is may k
taken_at b by node what (Some l) is may k = taken_ended b node what l (end_by by l (fate_by (content_of what))) (end_by_ends by l (fate_by (content_of what)) (fate_ends (content_of what))) is may k

pub taken_kept : (b : Book) (by : Option ℕ) (node : ℕ) (what : Brought) → MayBeTaken b node what → IsBook b → IsBook (taken b by node what)
taken_kept b by node what may k = taken_at b by node what (of_node b.table.leases node) refl may k
