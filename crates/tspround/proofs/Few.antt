-- The size of a tree whose splits since the start are by undecided pairs alone.
use Rattle.std.proofs.Common.{◌≡◌, ℕ, zero, suc, ◌+◌, ◌*◌, ◌<◌, ◌≤◌, Bool, List, [], ◌∷◌, ◌++◌, ℤ, sym, subst, arith, ◌⊎◌, inl, inr}
use Rattle.std.proofs.Math.Nat.{mul-le-mul_left}
use Rattle.tspdef.specs.Instances.{Instance}
use Rattle.tspdef.specs.Paths.{Condition, absent, present, two, four, is_decided, root}
use Rattle.tspdef.specs.Trees.{Tree, open_leaf, closed_leaf, edge_split, clique_split, IsSound, open_leaves, settled}
use Rattle.tspdef.specs.Bounds.{needed}
use Rattle.treebook.specs.Tables.{tree_of}
use Rattle.bossx.specs.Books.{level}
use Rattle.worker.specs.Splits.{IsNeededSplit}
use Rattle.worker.proofs.PathCounts.{open_pairs, pairs_most, pairs_drop, decided_stays, decided_absent, decided_present}
use Rattle.tspround.specs.Splits.{AllSplits, GrownBy, kinds_of}
use Rattle.tspround.specs.Laws.{FewCitiesEnd}

-- five cities have ten pairs
pairs_few : (d : ℕ → ℕ → Bool) (n : ℕ) → n ≤ 5 → open_pairs d n ≤ 10
pairs_few d n few = let most = pairs_most d n in let square : n * n ≤ n * 5 = mul-le-mul_left n few in omega arith

-- how many nodes a tree has at most with so many pairs open
abbrev pub most : ℕ → ℕ
most zero = 1
most (suc k) = most k + most k + 1

some : (k : ℕ) → 1 ≤ most k
some zero = omega arith
some (suc k) = let ih = some k in omega arith

few_nodes : (i : Instance) (l gap : ℕ) (number : ℤ) (k : ℕ) (path : List Condition) (t : Tree) → i.n < 6 → open_pairs (is_decided path) i.n ≤ k
    → AllSplits (kinds_of IsNeededSplit i l gap) path t → IsSound i number path t → settled t + open_leaves t ≤ most k
few_nodes i l gap number k path open_leaf few left all sound = some k
few_nodes i l gap number k path (closed_leaf c) few left all sound = some k
few_nodes i l gap number zero path (edge_split u v a b) few left all sound =
    let d = pairs_drop (is_decided path) (is_decided (path ++ absent u v ∷ [])) (decided_stays path (absent u v)) u v i.n sound.0.0.0 sound.0.0.1 sound.0.1 (decided_absent path u v) in
    absurd (omega arith)
few_nodes i l gap number (suc k) path (edge_split u v a b) few left all sound =
    let d = pairs_drop (is_decided path) (is_decided (path ++ absent u v ∷ [])) (decided_stays path (absent u v)) u v i.n sound.0.0.0 sound.0.0.1 sound.0.1 (decided_absent path u v) in
    let e = pairs_drop (is_decided path) (is_decided (path ++ present u v ∷ [])) (decided_stays path (present u v)) u v i.n sound.0.0.0 sound.0.0.1 sound.0.1 (decided_present path u v) in
    let first = few_nodes i l gap number k (path ++ absent u v ∷ []) a few (omega arith) all.1.0 sound.1.0 in
    let second = few_nodes i l gap number k (path ++ present u v ∷ []) b few (omega arith) all.1.1 sound.1.1 in
    omega arith
few_nodes i l gap number k path (clique_split s a b) few left all sound = absurd (all.0.edge few)

-- beside what was settled at the start there are at most 2,047 nodes for each leaf that was open
few_grown : (i : Instance) (l gap : ℕ) (number : ℤ) (path : List Condition) (s t : Tree) → i.n ≤ 5 → GrownBy (kinds_of IsNeededSplit i l gap) path s t → IsSound i number path t
    → settled t + open_leaves t ≤ settled s + 2047 * open_leaves s
few_grown i l gap number path open_leaf t few g sound =
    let small : settled t + open_leaves t ≤ most 10 = few_nodes i l gap number 10 path t (omega arith) (pairs_few (is_decided path) i.n few) g sound in
    small
few_grown i l gap number path (closed_leaf c) t few g sound = subst (λ (x : Tree). settled x + open_leaves x ≤ 1) (sym g) (omega arith)
few_grown i l gap number path (edge_split u v a b) t few g sound =
    let s : IsSound i number path (edge_split u v g.0 g.1) = subst (IsSound i number path) g.2 sound in
    let one = few_grown i l gap number (path ++ absent u v ∷ []) a g.0 few g.3 s.1.0 in
    let two = few_grown i l gap number (path ++ present u v ∷ []) b g.1 few g.4 s.1.1 in
    subst (λ (x : Tree). settled x + open_leaves x ≤ settled (edge_split u v a b) + 2047 * open_leaves (edge_split u v a b)) (sym g.2) (omega arith)
few_grown i l gap number path (clique_split c a b) t few g sound =
    let s : IsSound i number path (clique_split c g.0 g.1) = subst (IsSound i number path) g.2 sound in
    let one = few_grown i l gap number (path ++ two c ∷ []) a g.0 few g.3 s.1.0 in
    let other = few_grown i l gap number (path ++ four c ∷ []) b g.1 few g.4 s.1.1 in
    subst (λ (x : Tree). settled x + open_leaves x ≤ settled (clique_split c a b) + 2047 * open_leaves (clique_split c a b)) (sym g.2) (omega arith)

none_open : (budget before opened done all : ℕ) → done + opened ≤ before + 2047 * all → 2047 * all ≤ budget → (k : ℕ) → done ≡ before + k → (opened ≡ 0) ⊎ (k ≡ budget) → opened ≡ 0
none_open budget before opened done all small enough k counted which = elim which [ inl e ↦ e | inr e ↦ omega arith ]

pub few_cities_none_open : FewCitiesEnd
few_cities_none_open b book few split enough ended =
    let i = b.instance in
    let s = tree_of b.start.nodes in
    let t = tree_of b.tree.nodes in
    let small = few_grown i b.start.length b.gap (needed (level b)) (root i) s t few split book.sound in
    none_open b.budget (settled s) (open_leaves t) (settled t) (open_leaves s) small enough b.settled book.counted ended
