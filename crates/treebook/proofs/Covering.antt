use Rattle.std.proofs.Common.{inl, inr, ⊎_elim, ◌≡◌, ℕ, zero, suc, ◌+◌, ◌<◌, ◌≤◌, Bool, cond, List, [], ◌∷◌, ◌++◌, length, refl, sym, ◌∙◌, ap, subst, arith, eq-eqb, Some}
use Rattle.std.proofs.lemmas.Int.{ints}
use Rattle.std.proofs.lemmas.List.{append-nil}
use Rattle.treebook.proofs.WayLemmas.{path_step}
use Rattle.std.proofs.lemmas.Bool.{ne_eqb}
use Rattle.std.specs.Prelude.{ℤ, ◌≤ℤ◌}
use Rattle.tspdef.specs.Instances.{Instance}
use Rattle.tspdef.specs.Paths.{Condition, absent, present, two, four, root}
use Rattle.tspdef.specs.Bounds.{needed}
use Rattle.tspdef.specs.Trees.{Tree, open_leaf, closed_leaf, edge_split, clique_split, Side, first, second, IsSound, Covers, open_path, with_leaf}
use Rattle.tspdef.specs.Laws.{FittingIsClosing, EdgeSplitCovers, CliqueSplitCovers, ClosingCovers}
use Rattle.treebook.specs.Tables.{Branch, on_edge, on_clique, State, open_node, closed_node, split_node, Node, parent_at, state_at, condition_on, condition_under, path_at, sides_of, split_tree, grown, tree_within, tree_of, MaySplit, HasChildren, IsStateOf, IsTable}
use Rattle.treebook.specs.Laws.{ClosingKeepsCovers, SplittingKeepsCovers, ClosingKeepsSound, SplittingKeepsSound, ClosesFor, ClosedTablesAreSound, LessIsKept}
use Rattle.treebook.proofs.TreeLemmas.{are_behind, open_nodes_are_open_leaves}
use Rattle.treebook.proofs.Growing.{closing_keeps_tables, splitting_keeps_tables}
use Rattle.treebook.proofs.PlaceLemmas.{sound-with_leaf}

-- ---- what the tree covers

pub closing_keeps_covers : FittingIsClosing → ClosingCovers → ClosingKeepsCovers
closing_keeps_covers fitting law i nodes k c l big t o f q covers =
    let leaf = open_nodes_are_open_leaves i.n i.fixed nodes k t o in
    subst (λ (x : Tree). Covers i x l) (sym (closing_keeps_tables i.n i.fixed nodes k c t o f).tree)
    (law i (tree_of nodes) (sides_of nodes k) (path_at i.fixed nodes k) c l big leaf (fitting i.n (path_at i.fixed nodes k) c f) q covers)

split_covers : EdgeSplitCovers → CliqueSplitCovers → (i : Instance) (t : Tree) (sides : List Side) (path : List Condition) (b : Branch) (l : ℕ)
    → open_path (root i) t sides ≡ Some path → MaySplit i.n path b
    → Covers i t l → Covers i (with_leaf t sides (split_tree b open_leaf open_leaf)) l
split_covers edge clique i t sides path (on_edge u v) l leaf f covers = edge i t sides path u v l leaf f.0 f.1 covers
split_covers edge clique i t sides path (on_clique s) l leaf f covers = clique i t sides path s l leaf f covers

pub splitting_keeps_covers : EdgeSplitCovers → CliqueSplitCovers → SplittingKeepsCovers
splitting_keeps_covers edge clique i nodes k b l t o f covers =
    let leaf = open_nodes_are_open_leaves i.n i.fixed nodes k t o in
    subst (λ (x : Tree). Covers i x l) (sym (splitting_keeps_tables i.n i.fixed nodes k b t o f).tree)
    (split_covers edge clique i (tree_of nodes) (sides_of nodes k) (path_at i.fixed nodes k) b l leaf f covers)

-- ---- sound trees

pub closing_keeps_sound : FittingIsClosing → ClosingKeepsSound
closing_keeps_sound fitting i nodes k c l t o f q sound =
    let leaf = open_nodes_are_open_leaves i.n i.fixed nodes k t o in
    subst (IsSound i (needed l) (root i)) (sym (closing_keeps_tables i.n i.fixed nodes k c t o f).tree)
    (sound-with_leaf i (needed l) (root i) (tree_of nodes) (sides_of nodes k) (path_at i.fixed nodes k) (closed_leaf c) leaf sound (fitting i.n (path_at i.fixed nodes k) c f, q))

split_sound : (i : Instance) (number : ℤ) (path : List Condition) (b : Branch) → MaySplit i.n path b → IsSound i number path (split_tree b open_leaf open_leaf)
split_sound i number path (on_edge u v) f = (f, (tt, tt))
split_sound i number path (on_clique s) f = (f, (tt, tt))

pub splitting_keeps_sound : SplittingKeepsSound
splitting_keeps_sound i nodes k b l t o f sound =
    let leaf = open_nodes_are_open_leaves i.n i.fixed nodes k t o in
    subst (IsSound i (needed l) (root i)) (sym (splitting_keeps_tables i.n i.fixed nodes k b t o f).tree)
    (sound-with_leaf i (needed l) (root i) (tree_of nodes) (sides_of nodes k) (path_at i.fixed nodes k) (split_tree b open_leaf open_leaf) leaf sound
    (split_sound i (needed l) (path_at i.fixed nodes k) b f))

-- a split is sound where its children's trees are, each on its path
split_is_sound : (i : Instance) (number : ℤ) (path : List Condition) (b : Branch) (x y : Tree) → MaySplit i.n path b
    → IsSound i number (path ++ condition_on b first ∷ []) x → IsSound i number (path ++ condition_on b second ∷ []) y → IsSound i number path (split_tree b x y)
split_is_sound i number path (on_edge u v) x y f a b = (f, (a, b))
split_is_sound i number path (on_clique s) x y f a b = (f, (a, b))

-- the path of a child
child_path : (n : ℕ) (fixed : List (ℕ × ℕ)) (nodes : List Node) (k : ℕ) (s : State) (c : ℕ) → IsTable n fixed nodes → state_at nodes k ≡ s → k < c → c < length nodes → parent_at nodes c ≡ k
    → path_at fixed nodes c ≡ path_at fixed nodes k ++ condition_under s c ∷ []
child_path n fixed nodes k s c t is behind within parent =
    path_step fixed nodes c (are_behind n fixed nodes t) (omega arith) within
    ∙ ap (λ (p : ℕ). path_at fixed nodes p ++ condition_under (state_at nodes p) c ∷ []) parent
    ∙ ap (λ (x : State). path_at fixed nodes k ++ condition_under x c ∷ []) is

first_path : (n : ℕ) (fixed : List (ℕ × ℕ)) (nodes : List Node) (k : ℕ) (b : Branch) (c : ℕ) → IsTable n fixed nodes → state_at nodes k ≡ split_node b c → HasChildren nodes k c
    → path_at fixed nodes c ≡ path_at fixed nodes k ++ condition_on b first ∷ []
first_path n fixed nodes k b c t is h =
    let within = h.within in
    child_path n fixed nodes k (split_node b c) c t is h.behind (omega arith) h.one
    ∙ ap (λ (x : Bool). path_at fixed nodes k ++ condition_on b (cond x first second) ∷ []) (eq-eqb c c refl)

second_path : (n : ℕ) (fixed : List (ℕ × ℕ)) (nodes : List Node) (k : ℕ) (b : Branch) (c : ℕ) → IsTable n fixed nodes → state_at nodes k ≡ split_node b c → HasChildren nodes k c
    → path_at fixed nodes (c + 1) ≡ path_at fixed nodes k ++ condition_on b second ∷ []
second_path n fixed nodes k b c t is h =
    let behind = h.behind in
    child_path n fixed nodes k (split_node b c) (c + 1) t is (omega arith) h.within h.other
    ∙ ap (λ (x : Bool). path_at fixed nodes k ++ condition_on b (cond x first second) ∷ []) (ne_eqb (c + 1) c (λ e. absurd (omega arith)))

grown_sound : FittingIsClosing → (i : Instance) (l : ℕ) (nodes : List Node) (k : ℕ) (s : State) (below : ℕ → Tree) → IsTable i.n i.fixed nodes → ClosesFor i l nodes
    → k < length nodes → state_at nodes k ≡ s → IsStateOf i.n i.fixed nodes k s
    → ((j : ℕ) → k < j → j < length nodes → IsSound i (needed l) (path_at i.fixed nodes j) (below j)) → IsSound i (needed l) (path_at i.fixed nodes k) (grown below s)
grown_sound fitting i l nodes k open_node below t closes m is ok sound = tt
grown_sound fitting i l nodes k (closed_node c) below t closes m is ok sound = (fitting i.n (path_at i.fixed nodes k) c ok, closes k c m is)
grown_sound fitting i l nodes k (split_node b child) below t closes m is ok sound =
    let h = ok.1 in let behind = h.behind in let within = h.within in
    split_is_sound i (needed l) (path_at i.fixed nodes k) b (below child) (below (child + 1)) ok.0
    (subst (λ (p : List Condition). IsSound i (needed l) p (below child)) (first_path i.n i.fixed nodes k b child t is h) (sound child behind (omega arith)))
    (subst (λ (p : List Condition). IsSound i (needed l) p (below (child + 1))) (second_path i.n i.fixed nodes k b child t is h) (sound (child + 1) (omega arith) within))

sound_within : FittingIsClosing → (i : Instance) (l : ℕ) (nodes : List Node) → IsTable i.n i.fixed nodes → ClosesFor i l nodes
    → (fuel k : ℕ) → length nodes ≤ k + fuel → k < length nodes → IsSound i (needed l) (path_at i.fixed nodes k) (tree_within fuel nodes k)
sound_within fitting i l nodes t closes zero k x m = tt
sound_within fitting i l nodes t closes (suc fuel) k x m =
    grown_sound fitting i l nodes k (state_at nodes k) (tree_within fuel nodes) t closes m refl (t.states k m)
    (λ j less q. sound_within fitting i l nodes t closes fuel j (omega arith) q)

pub closed_tables_are_sound : FittingIsClosing → ClosedTablesAreSound
closed_tables_are_sound fitting i nodes l t closes =
    subst (λ (p : List Condition). IsSound i (needed l) p (tree_of nodes)) (append-nil (root i)) (sound_within fitting i l nodes t closes (length nodes) 0 (omega arith) t.some)

-- ---- lesser lengths

needed_less : (l m : ℕ) → m ≤ l → needed m ≤ℤ (needed l)
needed_less l m h = omega (arith, ints)

sound_less : (i : Instance) (l m : ℕ) (path : List Condition) (t : Tree) → m ≤ l → IsSound i (needed l) path t → IsSound i (needed m) path t
sound_less i l m path open_leaf h s = tt
sound_less i l m path (closed_leaf c) h s = let less = needed_less l m h in let more = s.1 in (s.0, omega (arith, ints))
sound_less i l m path (edge_split u v a b) h s = (s.0, (sound_less i l m (path ++ absent u v ∷ []) a h s.1.0, sound_less i l m (path ++ present u v ∷ []) b h s.1.1))
sound_less i l m path (clique_split q a b) h s = (s.0, (sound_less i l m (path ++ two q ∷ []) a h s.1.0, sound_less i l m (path ++ four q ∷ []) b h s.1.1))

pub less_is_kept : LessIsKept
less_is_kept i l m t h = record {
  covers = λ covers tour is. ⊎_elim (λ x. inl x) (λ x. inr (omega arith)) (covers tour is);
  sound = sound_less i l m (root i) t h;
}
