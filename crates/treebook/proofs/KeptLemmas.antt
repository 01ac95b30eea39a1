use Rattle.std.proofs.Common.{◌≡◌, ℕ, ◌+◌, ◌-◌, ◌<◌, ◌≤◌, List, [], ◌∷◌, ◌++◌, length, sym, ◌∙◌, ap, subst, arith, append_assoc}
use Rattle.std.specs.Prelude.{◌<ℤ◌}
use Rattle.std.proofs.lemmas.List.{length-map}
use Rattle.tspdef.specs.Instances.{Instance}
use Rattle.tspdef.specs.Closings.{Closing, Fits}
use Rattle.tspdef.specs.Bounds.{bound, needed}
use Rattle.treebook.specs.Tables.{Branch, split_node, open_node, open_under, Node, state_at, path_at, MaySplit, IsTable, IsOpen, NoneOpen, with_state, closed_at, split_at}
use Rattle.treebook.specs.Laws.{KeepsTree, ClosingKeepsCovers, ClosingKeepsSound, SplittingKeepsCovers, SplittingKeepsSound}
use Rattle.treebook.specs.Tree.{Table, node_of, nodes_of}
use Rattle.treebook.specs.TreeInside.{table_of, HasCounts, IsFront, IsWellKept}
use Rattle.treebook.specs.declared.node.Node as fields
use Rattle.treebook.specs.declared.tree.Tree.TheInside.{Inside}
use Rattle.treebook.proofs.Growing.{closing_keeps_tables, splitting_keeps_tables}
use Rattle.treebook.proofs.CountLemmas.{counts_closed, counts_split, none_open_closed, none_open_split, none_open_on}

-- what the fields are once a node is closed
pub record IsClosedIn (a : Inside) (more : List Node) : Type 0 where
  pub some : 1 ≤ a.open_count
  pub is_table : IsTable a.n a.fixed.items more
  pub counts : HasCounts more (a.open_count - 1) (a.settled_count + 1)
  pub none_before : NoneOpen more 0 a.front

pub closed_in : (a : Inside) (t : Table) (more : List Node) (k : ℕ) (c : Closing) → table_of a ≡ t → IsWellKept a
    → IsOpen t.nodes k → Fits t.n (path_at t.fixed t.nodes k) c → more ≡ closed_at (nodes_of a.nodes.items) k c → IsClosedIn a more
closed_in a t more k c view kept o f e =
    let nodes = nodes_of a.nodes.items in
    let is_open : IsOpen nodes k = subst (λ (x : Table). IsOpen x.nodes k) (sym view) o in
    let fits : Fits a.n (path_at a.fixed.items nodes k) c = subst (λ (x : Table). Fits x.n (path_at x.fixed x.nodes k) c) (sym view) f in
    let counts = counts_closed a.n a.fixed.items nodes more k c a.open_count a.settled_count e kept.is_table is_open fits kept.counts in
    record {
      some = counts.0;
      is_table = subst (IsTable a.n a.fixed.items) (sym e) (closing_keeps_tables a.n a.fixed.items nodes k c kept.is_table is_open fits).is_table;
      counts = counts.1;
      none_before = none_open_closed nodes more k c a.front e is_open kept.front;
    }

pub closed_keeps : ClosingKeepsCovers → ClosingKeepsSound → (a : Inside) (t : Table) (more : List Node) (k : ℕ) (c : Closing) → table_of a ≡ t → IsWellKept a
    → IsOpen t.nodes k → Fits t.n (path_at t.fixed t.nodes k) c → more ≡ closed_at (nodes_of a.nodes.items) k c
    → (i : Instance) (l : ℕ) → i.n ≡ t.n → i.fixed ≡ t.fixed → 3 ≤ i.n → needed l <ℤ (bound i (path_at t.fixed t.nodes k) c) → KeepsTree i l t.nodes more
closed_keeps covers sound a t more k c view kept o f e i l cities same many q =
    let now : more ≡ closed_at t.nodes k c = e ∙ ap (λ (x : Table). closed_at x.nodes k c) view in
    let table : IsTable t.n t.fixed t.nodes = subst (λ (x : Table). IsTable x.n x.fixed x.nodes) view kept.is_table in
    let table_i : IsTable i.n i.fixed t.nodes = subst (λ (ps : List (ℕ × ℕ)). IsTable i.n ps t.nodes) (sym same) (subst (λ (n : ℕ). IsTable n t.fixed t.nodes) (sym cities) table) in
    let fits_i : Fits i.n (path_at i.fixed t.nodes k) c = subst (λ (ps : List (ℕ × ℕ)). Fits i.n (path_at ps t.nodes k) c) (sym same) (subst (λ (n : ℕ). Fits n (path_at t.fixed t.nodes k) c) (sym cities) f) in
    let enough : needed l <ℤ (bound i (path_at i.fixed t.nodes k) c) = subst (λ (ps : List (ℕ × ℕ)). needed l <ℤ (bound i (path_at ps t.nodes k) c)) (sym same) q in
    subst (KeepsTree i l t.nodes) (sym now) (record {
      covers = covers i t.nodes k c l many table_i o fits_i enough;
      sound = sound i t.nodes k c l table_i o fits_i enough;
    })

-- what they are once a node is split
pub record IsSplitIn (a : Inside) (more : List Node) : Type 0 where
  pub is_table : IsTable a.n a.fixed.items more
  pub counts : HasCounts more (a.open_count + 1) (a.settled_count + 1)
  pub none_before : NoneOpen more 0 a.front

pub split_in : (a : Inside) (t : Table) (more : List Node) (k : ℕ) (b : Branch) → table_of a ≡ t → IsWellKept a
    → IsOpen t.nodes k → MaySplit t.n (path_at t.fixed t.nodes k) b → more ≡ split_at (nodes_of a.nodes.items) k b → IsSplitIn a more
split_in a t more k b view kept o f e =
    let nodes = nodes_of a.nodes.items in
    let is_open : IsOpen nodes k = subst (λ (x : Table). IsOpen x.nodes k) (sym view) o in
    let fits : MaySplit a.n (path_at a.fixed.items nodes k) b = subst (λ (x : Table). MaySplit x.n (path_at x.fixed x.nodes k) b) (sym view) f in
    record {
      is_table = subst (IsTable a.n a.fixed.items) (sym e) (splitting_keeps_tables a.n a.fixed.items nodes k b kept.is_table is_open fits).is_table;
      counts = counts_split a.n a.fixed.items nodes more k b a.open_count a.settled_count e kept.is_table is_open fits kept.counts;
      none_before = none_open_split nodes more k b a.front e is_open kept.front;
    }

pub split_keeps : SplittingKeepsCovers → SplittingKeepsSound → (a : Inside) (t : Table) (more : List Node) (k : ℕ) (b : Branch) → table_of a ≡ t → IsWellKept a
    → IsOpen t.nodes k → MaySplit t.n (path_at t.fixed t.nodes k) b → more ≡ split_at (nodes_of a.nodes.items) k b
    → (i : Instance) (l : ℕ) → i.n ≡ t.n → i.fixed ≡ t.fixed → KeepsTree i l t.nodes more
split_keeps covers sound a t more k b view kept o f e i l cities same =
    let now : more ≡ split_at t.nodes k b = e ∙ ap (λ (x : Table). split_at x.nodes k b) view in
    let table : IsTable t.n t.fixed t.nodes = subst (λ (x : Table). IsTable x.n x.fixed x.nodes) view kept.is_table in
    let table_i : IsTable i.n i.fixed t.nodes = subst (λ (ps : List (ℕ × ℕ)). IsTable i.n ps t.nodes) (sym same) (subst (λ (n : ℕ). IsTable n t.fixed t.nodes) (sym cities) table) in
    let fits_i : MaySplit i.n (path_at i.fixed t.nodes k) b = subst (λ (ps : List (ℕ × ℕ)). MaySplit i.n (path_at ps t.nodes k) b) (sym same) (subst (λ (n : ℕ). MaySplit n (path_at t.fixed t.nodes k) b) (sym cities) f) in
    subst (KeepsTree i l t.nodes) (sym now) (record {
      covers = covers i t.nodes k b l table_i o fits_i;
      sound = sound i t.nodes k b l table_i o fits_i;
    })

-- two nodes put behind a table with one split
pub split_items : (nodes one two more : List Node) (k : ℕ) (b : Branch) (x y : Node) (len : ℕ) → len ≡ length nodes
    → one ≡ with_state nodes k (split_node b len) → two ≡ one ++ x ∷ [] → more ≡ two ++ y ∷ [] → x ≡ open_under k → y ≡ open_under k → more ≡ split_at nodes k b
split_items nodes one two more k b x y len same a d e f g =
    e ∙ ap (λ (z : List Node). z ++ y ∷ []) d ∙ append_assoc one (x ∷ []) (y ∷ [])
    ∙ ap (λ (z : Node). one ++ z ∷ y ∷ []) f ∙ ap (λ (z : Node). one ++ open_under k ∷ z ∷ []) g
    ∙ ap (λ (z : List Node). z ++ open_under k ∷ open_under k ∷ []) (a ∙ ap (λ (m : ℕ). with_state nodes k (split_node b m)) same)

-- the first open node, found from where it was
pub front_from : (xs ys : List fields.Node) (f g : ℕ) → xs ≡ ys → NoneOpen (nodes_of ys) 0 f → g ≤ length xs → NoneOpen (nodes_of xs) f g
    → (g < length xs → state_at (nodes_of xs) g ≡ open_node) → IsFront (nodes_of ys) g
front_from xs ys f g same before within next is_open =
    let len = length-map xs node_of in
    subst (λ (zs : List fields.Node). IsFront (nodes_of zs) g) same (record {
      within = omega arith;
      none_before = none_open_on (nodes_of xs) f g (subst (λ (zs : List fields.Node). NoneOpen (nodes_of zs) 0 f) (sym same) before) next;
      is_open = λ l. is_open (omega arith);
    })
