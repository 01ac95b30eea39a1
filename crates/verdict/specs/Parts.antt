-- What the bytes of a restart body say, part by part: the tour, and then the nodes of the tree in preorder, as they are read.
use Rattle.std.specs.Prelude.{◌≡◌, ℕ, zero, suc, ◌+◌, ◌-◌, ◌^◌, ◌<◌, ◌≤◌, ◌==◌, length, if◌then◌else◌, List, [], ◌∷◌, ◌++◌, Option, Some, None}
use Rattle.tspdef.specs.Instances.{Instance}
use Rattle.tspdef.specs.Closings.{Closing}
use Rattle.tspdef.specs.Trees as trees
use Rattle.tspdef.specs.Trees.{Tree}
use Rattle.certdef.specs.Items.{Item, tour_line, edge_line, clique_line, leaf_line, city_line, cut_line, condition_line, open_line, item_of}
use Rattle.certdef.specs.Proofs.{Duals, Proof}
use Rattle.certdef.specs.Accepted.{from_zero, cuts_of, closing_of, tree_in, most_bytes}
use Rattle.certdef.specs.Tests.{Tests}
use Rattle.certdef.specs.Verdicts.{Head, Stage, wants_tour, wants_trees, wants_duals}
use Rattle.certdef.specs.Bytes.{Reading, Read, reads, stops, start, byte_on, bytes_on}
use Rattle.verdict.specs.Bodies.{merged_closing, merged, IsBodyOf, resumer}

-- the tour; or a node of the tree: an open or a closed leaf, or a split, whose two trees follow it
pub data Part : Type 0 where
  the_tour : (cities : List ℕ) → Part
  opened : Part
  closed : (closing : Closing) → Part
  edge : (u v : ℕ) → Part
  clique : (set : List ℕ) → Part

-- the nodes of a tree in preorder
abbrev pub preorder : Tree → List Part
preorder trees.open_leaf = opened ∷ []
preorder (trees.closed_leaf c) = closed c ∷ []
preorder (trees.edge_split u v a b) = edge u v ∷ preorder a ++ preorder b
preorder (trees.clique_split s a b) = clique s ∷ preorder a ++ preorder b

-- the parts of a value for n cities; equal cuts of a leaf are one
abbrev pub parts_of : ℕ → Proof → List Part
parts_of n p = the_tour (from_zero p.tour) ∷ preorder (merged (tree_in n p))

-- a leaf is said where no line of it is to come
abbrev pub leaf_says : ℕ → Head → Duals → (a b c : ℕ) → List Part
leaf_says n h d zero zero zero = closed (merged_closing (closing_of n (cuts_of n h.cuts) d)) ∷ []
leaf_says n h d (suc a) b c = []
leaf_says n h d zero (suc b) c = []
leaf_says n h d zero zero (suc c) = []

-- what a line of a tree says, at a node
abbrev pub tree_says : ℕ → Head → Item → List Part
tree_says n h (edge_line u v) = edge (u - 1) (v - 1) ∷ []
tree_says n h (clique_line s) = clique (from_zero s) ∷ []
tree_says n h (leaf_line a b c) = leaf_says n h (record { cities = []; cuts = []; conds = [] }) a b c
tree_says n h open_line = opened ∷ []
tree_says n h _ = []

-- what a line of a leaf says, of which so many lines are to come
abbrev pub dual_says : ℕ → Head → Duals → (a b c : ℕ) → Item → List Part
dual_says n h d (suc a) b c (city_line v x) = leaf_says n h (record d { cities = d.cities ++ (v, x) ∷ [] }) a b c
dual_says n h d zero (suc b) c (cut_line k y) = leaf_says n h (record d { cuts = d.cuts ++ (k, y) ∷ [] }) zero b c
dual_says n h d zero zero (suc c) (condition_line k z) = leaf_says n h (record d { conds = d.conds ++ (k, z) ∷ [] }) zero zero c
dual_says n h d _ _ _ _ = []

-- what the line of a tour says
abbrev pub tour_says : Item → List Part
tour_says (tour_line cs) = the_tour (from_zero cs) ∷ []
tour_says _ = []

-- what a line says where the stage wants one, if it is not refused
abbrev pub says : ℕ → Stage → Item → List Part
says n (wants_tour l b) x = tour_says x
says n (wants_trees h (p ∷ ps)) x = tree_says n h x
says n (wants_duals h ps o a b c) x = dual_says n h o.duals a b c x
says n _ x = []

abbrev pub line_says : ℕ → Stage → Option Item → List Part
line_says n s None = []
line_says n s (Some x) = says n s x

-- a line is said with the byte that ends it
abbrev pub byte_says : ℕ → Reading → ℕ → List Part
byte_says n r b = if b == 10 then line_says n r.stage (item_of n r.begun) else []

-- what more bytes say, up to a refusal
abbrev pub bytes_say : Tests → Read → List ℕ → List Part
bytes_say j (stops k at) bs = []
bytes_say j (reads r) [] = []
bytes_say j (reads r) (b ∷ bs) = byte_says j.n r b ++ bytes_say j (byte_on j r b) bs

-- what the bytes of a restart body say, from the first one on
abbrev pub body_says : Instance → List ℕ → List Part
body_says i bytes = bytes_say (resumer i) (reads start) bytes

-- The bytes of a restart body say the parts of its value.
abbrev pub BodiesSayTheirParts : Type 0
BodiesSayTheirParts = (i : Instance) (bytes : List ℕ) (l b : ℕ) (p : Proof) → i.n < 2 ^ 32 → length bytes ≤ most_bytes → IsBodyOf i bytes l b p
    → body_says i bytes ≡ parts_of i.n p
