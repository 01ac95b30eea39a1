-- A tree's nodes in preorder, and the depths at which its trees wait.
use Rattle.std.proofs.Common.{◌≡◌, ◌≢◌, ℕ, ◌+◌, ◌≤◌, List, [], ◌∷◌, ◌++◌, refl, sym, ap, subst, ◌∙◌, append_assoc, arith}
use Rattle.std.specs.List.{AllByRecursion}
use Rattle.std.proofs.lemmas.List.{append-nil}
use Rattle.picture.specs.Trees.{Shape, open_leaf, closed_leaf, split, preorder, depths_from, all_nodes, all_depths, AreAsLong}
use Rattle.picture.specs.declared.tree.Node.{Node}
use Rattle.picture.specs.declared.tree.Node.TheVariants as nodes
use Rattle.picture.proofs.Lists.{all_weaker}

-- at these depths trees wait whose nodes are left, and the depths of their nodes are what is missing of a whole
abbrev pub Reaches : List Node → List ℕ → List ℕ → List ℕ → Type 0
Reaches left waiting depths whole = (trees : List Shape) × AreAsLong waiting trees × (left ≡ all_nodes trees) × (depths ++ all_depths waiting trees ≡ whole)

pub starts : (tree : Shape) (left : List Node) → preorder tree ≡ left → Reaches left (0 ∷ []) [] (depths_from 0 tree)
starts tree left e = (tree ∷ [], tt, sym e ∙ sym (append-nil (preorder tree)), append-nil (depths_from 0 tree))

leaf_on : (d : ℕ) (ds ws out whole : List ℕ) (rest : List Node) (ts : List Shape) → AreAsLong ds ts → rest ≡ all_nodes ts
    → out ++ d ∷ all_depths ds ts ≡ whole → ws ≡ ds → Reaches rest ws (out ++ d ∷ []) whole
leaf_on d ds ws out whole rest ts long e w same = subst (λ (x : List ℕ). Reaches rest x (out ++ d ∷ []) whole) (sym same) (ts, long, e, append_assoc out (d ∷ []) (all_depths ds ts) ∙ w)

-- one node more
pub goes_on : (n : Node) (d : ℕ) (ds ws out whole : List ℕ) (rest : List Node) → Reaches (n ∷ rest) (d ∷ ds) out whole
    → (n ≢ nodes.Split → ws ≡ ds) → (n ≡ nodes.Split → ws ≡ (d + 1) ∷ (d + 1) ∷ ds) → Reaches rest ws (out ++ d ∷ []) whole
goes_on n d ds ws out whole rest ([], long, e, w) leaf two = absurd long
goes_on n d ds ws out whole rest (open_leaf ∷ ts, long, e, w) leaf two =
    let kind : n ≡ nodes.Open = cc in let tail : rest ≡ all_nodes ts = cc in
    leaf_on d ds ws out whole rest ts long tail w (leaf (λ s. let x : nodes.Open ≡ nodes.Split = sym kind ∙ s in cc))
goes_on n d ds ws out whole rest (closed_leaf ∷ ts, long, e, w) leaf two =
    let kind : n ≡ nodes.Closed = cc in let tail : rest ≡ all_nodes ts = cc in
    leaf_on d ds ws out whole rest ts long tail w (leaf (λ s. let x : nodes.Closed ≡ nodes.Split = sym kind ∙ s in cc))
goes_on n d ds ws out whole rest (split a b ∷ ts, long, e, w) leaf two =
    let kind : n ≡ nodes.Split = cc in let tail : rest ≡ (preorder a ++ preorder b) ++ all_nodes ts = cc in
    subst (λ (x : List ℕ). Reaches rest x (out ++ d ∷ []) whole) (sym (two kind)) (
      a ∷ b ∷ ts,
      long,
      tail ∙ append_assoc (preorder a) (preorder b) (all_nodes ts),
      append_assoc out (d ∷ []) (depths_from (d + 1) a ++ (depths_from (d + 1) b ++ all_depths ds ts))
          ∙ (ap (λ (x : List ℕ). out ++ d ∷ x) (sym (append_assoc (depths_from (d + 1) a) (depths_from (d + 1) b) (all_depths ds ts))) ∙ w),
    )

-- no node is left
pub ends : (ds out whole : List ℕ) → Reaches [] ds out whole → out ≡ whole
ends [] out whole ([], long, e, w) = sym (append-nil out) ∙ w
ends [] out whole (t ∷ ts, long, e, w) = absurd long
ends (d ∷ ds) out whole ([], long, e, w) = absurd long
ends (d ∷ ds) out whole (open_leaf ∷ ts, long, e, w) = absurd cc
ends (d ∷ ds) out whole (closed_leaf ∷ ts, long, e, w) = absurd cc
ends (d ∷ ds) out whole (split a b ∷ ts, long, e, w) = absurd cc

deeper : (k : ℕ) (ds : List ℕ) → AllByRecursion (λ d. d ≤ k) ds → AllByRecursion (λ d. d ≤ k + 1) ds
deeper k ds a = all_weaker (λ d. d ≤ k) (λ d. d ≤ k + 1) ds (λ d l. omega arith) a

-- no tree waits deeper than as many nodes were taken
pub still_low : (n : Node) (k d : ℕ) (ds ws : List ℕ) → AllByRecursion (λ e. e ≤ k) (d ∷ ds) → (n ≢ nodes.Split → ws ≡ ds)
    → (n ≡ nodes.Split → ws ≡ (d + 1) ∷ (d + 1) ∷ ds) → AllByRecursion (λ e. e ≤ k + 1) ws
still_low nodes.Open k d ds ws a leaf two = subst (λ (w : List ℕ). AllByRecursion (λ e. e ≤ k + 1) w) (sym (leaf (λ s. cc))) (deeper k ds a.1)
still_low nodes.Closed k d ds ws a leaf two = subst (λ (w : List ℕ). AllByRecursion (λ e. e ≤ k + 1) w) (sym (leaf (λ s. cc))) (deeper k ds a.1)
still_low nodes.Split k d ds ws a leaf two =
    let low = a.0 in subst (λ (w : List ℕ). AllByRecursion (λ e. e ≤ k + 1) w) (sym (two refl)) (omega arith, (omega arith, deeper k ds a.1))

-- no tree waits: the nodes that are left are of none
pub ends_early : (left : List Node) (out whole : List ℕ) → Reaches left [] out whole → out ≡ whole
ends_early left out whole ([], long, e, w) = sym (append-nil out) ∙ w
ends_early left out whole (t ∷ ts, long, e, w) = absurd long
