-- A tree grows part by part.
use Rattle.std.proofs.Common.{◌≡◌, ℕ, ◌+◌, ◌-◌, ◌<◌, ◌≤◌, Bool, true, false, cond, List, [], ◌∷◌, ◌++◌, length, length-append, map, refl, sym, ap, subst, ◌∙◌, arith, append_assoc}
use Rattle.std.specs.Prelude.{◌≢◌, ℤ, ◌<ℤ◌, Result, Ok, Err, OnOk}
use Rattle.std.specs.Int.Signed.{lt_z}
use Rattle.std.proofs.lemmas.Int.{ints}
use Rattle.std.specs.List.{flat_map, AllByRecursion}
use Rattle.tspdef.specs.Instances.{Instance}
use Rattle.tspdef.specs.Fixed.{AreFixable}
use Rattle.tspdef.specs.Paths.{Condition, root}
use Rattle.tspdef.specs.Closings.{Closing, Fits, IsClosing}
use Rattle.tspdef.specs.Bounds.{bound, needed}
use Rattle.tspdef.specs.Trees.{Tree, open_leaf, closed_leaf, edge_split, clique_split, IsSound, Side, first, second, with_leaf}
use Rattle.treebook.specs.Tables.{Branch, on_edge, on_clique, Node, condition_on, path_at, sides_of, split_tree, tree_of, fresh, IsTable, IsOpen, MaySplit, closed_at, split_at, ArePairs}
use Rattle.treebook.specs.Tree.{Table}
use Rattle.treebook.proofs.Growing as tables
use Rattle.treebook.proofs.Growing.{paths_kept, closed_length, closed_grows, split_length, split_grows, closing_keeps_tables, splitting_keeps_tables}
use Rattle.treebook.proofs.TreeLemmas.{open_nodes_are_open_leaves, fresh_is_table}
use Rattle.verdict.specs.Bodies.{reopened, reopened_for}
use Rattle.certcheck.specs.Parts.{part_of, parts_of}
use Rattle.certcheck.specs.declared.part.Part as P
use Rattle.verdict.specs.Parts.{Part, the_tour, opened, closed, edge, clique, preorder}
use Rattle.resume_form.specs.Growing.{AllFit, Comes, AllCome, filled, fillings, StandsWith, IsGrowing, Grows, IsSaid, IsGrown}
use Rattle.resume_form.proofs.Places.{same_leaf, children_in_place}
use Rattle.resume_form.proofs.Kept.{sides_kept, open_kept, IsChildAt, first_child, second_child}

-- ---- the first tree that is to come, by its first node

leaf_first : (t : Tree) (more rest : List Part) → opened ∷ rest ≡ preorder t ++ more → (t ≡ open_leaf) × (rest ≡ more)
leaf_first open_leaf more rest e = (refl, cc)
leaf_first (closed_leaf c) more rest e = cc
leaf_first (edge_split u v a b) more rest e = cc
leaf_first (clique_split s a b) more rest e = cc

closed_first : (t : Tree) (c : Closing) (more rest : List Part) → closed c ∷ rest ≡ preorder t ++ more → (t ≡ closed_leaf c) × (rest ≡ more)
closed_first open_leaf c more rest e = cc
closed_first (closed_leaf d) c more rest e = let same : c ≡ d = cc in (ap closed_leaf (sym same), cc)
closed_first (edge_split u v a b) c more rest e = cc
closed_first (clique_split s a b) c more rest e = cc

-- the part that a split is
abbrev pub split_part : Branch → Part
split_part (on_edge u v) = edge u v
split_part (on_clique s) = clique s

split_first : (b : Branch) (t : Tree) (more rest : List Part) → split_part b ∷ rest ≡ preorder t ++ more → (x : Tree) × (y : Tree) × (t ≡ split_tree b x y) × (rest ≡ (preorder x ++ preorder y) ++ more)
split_first (on_edge u v) open_leaf more rest e = cc
split_first (on_edge u v) (closed_leaf d) more rest e = cc
split_first (on_edge u v) (edge_split u' v' a b) more rest e =
    let one : u ≡ u' = cc in let other : v ≡ v' = cc in
    (a, b, ap (λ k. edge_split k v' a b) (sym one) ∙ ap (λ k. edge_split u k a b) (sym other), cc)
split_first (on_edge u v) (clique_split s a b) more rest e = cc
split_first (on_clique s) open_leaf more rest e = cc
split_first (on_clique s) (closed_leaf d) more rest e = cc
split_first (on_clique s) (edge_split u v a b) more rest e = cc
split_first (on_clique s) (clique_split s' a b) more rest e = let same : s ≡ s' = cc in (a, b, ap (λ k. clique_split k a b) (sym same), cc)

-- ---- what a split says of its children

split_sound : (i : Instance) (x : ℤ) (path : List Condition) (b : Branch) (s t : Tree) → IsSound i x path (split_tree b s t)
    → MaySplit i.n path b × IsSound i x (path ++ condition_on b first ∷ []) s × IsSound i x (path ++ condition_on b second ∷ []) t
split_sound i x path (on_edge u v) s t h = (h.0, h.1.0, h.1.1)
split_sound i x path (on_clique q) s t h = (h.0, h.1.0, h.1.1)

split_fit : (n : ℕ) (path : List Condition) (b : Branch) (s t : Tree) → AllFit n path (split_tree b s t) → AllFit n (path ++ condition_on b first ∷ []) s × AllFit n (path ++ condition_on b second ∷ []) t
split_fit n path (on_edge u v) s t h = h
split_fit n path (on_clique q) s t h = h

split_reopened : (i : Instance) (y : ℤ) (path : List Condition) (b : Branch) (s t : Tree)
    → reopened i y path (split_tree b s t) ≡ split_tree b (reopened i y (path ++ condition_on b first ∷ []) s) (reopened i y (path ++ condition_on b second ∷ []) t)
split_reopened i y path (on_edge u v) s t = refl
split_reopened i y path (on_clique q) s t = refl

-- ---- the nodes that wait, where another one changes

come_kept : (i : Instance) (x : ℤ) (nodes more : List Node) (k : ℕ) → IsTable i.n i.fixed nodes → IsOpen nodes k → tables.Grows nodes more k
    → (ks : List ℕ) (ts : List Tree) → AllByRecursion (λ j. j ≢ k) ks → AllCome i x nodes ks ts → AllCome i x more ks ts
come_kept i x nodes more k t o g [] [] ne c = tt
come_kept i x nodes more k t o g [] (s ∷ ts) ne c = absurd c
come_kept i x nodes more k t o g (j ∷ ks) [] ne c = absurd c
come_kept i x nodes more k t o g (j ∷ ks) (s ∷ ts) ne c =
    let h = c.0 in
    let path = sym (paths_kept i.n i.fixed nodes more k j t o g h.is_open.within) in (
      record {
        is_open = open_kept nodes more k j g h.is_open ne.0;
        sound = subst (λ p. IsSound i x p s) path h.sound;
        fit = subst (λ p. AllFit i.n p s) path h.fit;
      },
      c.1,
      come_kept i x nodes more k t o g ks ts ne.1 c.2,
    )

fillings_kept : (i : Instance) (x y : ℤ) (nodes more : List Node) (k : ℕ) → IsTable i.n i.fixed nodes → IsTable i.n i.fixed more → IsOpen nodes k → tables.Grows nodes more k
    → (ks : List ℕ) (ts : List Tree) → AllCome i x nodes ks ts → fillings i y more ks ts ≡ fillings i y nodes ks ts
fillings_kept i x y nodes more k t u o g [] ts c = refl
fillings_kept i x y nodes more k t u o g (j ∷ ks) [] c = refl
fillings_kept i x y nodes more k t u o g (j ∷ ks) (s ∷ ts) c =
    let within = c.0.is_open.within in
    ap (λ p. (p, reopened i y (path_at i.fixed more j) s) ∷ fillings i y more ks ts) (sides_kept i.n i.fixed nodes more k j t u o g within)
    ∙ ap (λ p. (sides_of nodes j, reopened i y p s) ∷ fillings i y more ks ts) (paths_kept i.n i.fixed nodes more k j t o g within)
    ∙ ap (λ qs. (sides_of nodes j, reopened i y (path_at i.fixed nodes j) s) ∷ qs) (fillings_kept i x y nodes more k t u o g ks ts c.2)

-- ---- as many parts are left as nodes wait, at least

some_nodes : (t : Tree) → 1 ≤ length (preorder t)
some_nodes open_leaf = omega arith
some_nodes (closed_leaf c) = omega arith
some_nodes (edge_split u v a b) = let l = length-append (edge u v ∷ preorder a) (preorder b) in omega arith
some_nodes (clique_split s a b) = let l = length-append (clique s ∷ preorder a) (preorder b) in omega arith

parts_many : (i : Instance) (x : ℤ) (nodes : List Node) (ks : List ℕ) (ts : List Tree) → AllCome i x nodes ks ts → length ks ≤ length (flat_map preorder ts)
parts_many i x nodes [] ts c = omega arith
parts_many i x nodes (k ∷ ks) [] c = absurd c
parts_many i x nodes (k ∷ ks) (t ∷ ts) c =
    let ih = parts_many i x nodes ks ts c.2 in
    let some = some_nodes t in
    let l = length-append (preorder t) (flat_map preorder ts) in
    omega arith

-- ---- a leaf that is open

open_stands : (i : Instance) (x y : ℤ) (goal : Tree) (nodes : List Node) (k : ℕ) (ks : List ℕ) (rest : List Part) (ts : List Tree) → StandsWith i x y goal nodes (k ∷ ks) (opened ∷ rest) ts
    → (us : List Tree) × StandsWith i x y goal nodes ks rest us
open_stands i x y goal nodes k ks rest [] s = absurd s.come
open_stands i x y goal nodes k ks rest (t ∷ ts) s =
    let f = leaf_first t (flat_map preorder ts) rest s.parts in
    let here : reopened i y (path_at i.fixed nodes k) t ≡ open_leaf = ap (reopened i y (path_at i.fixed nodes k)) f.0 in (
      ts,
      record {
        come = s.come.2;
        parts = f.1;
        reaches = ap (filled (fillings i y nodes ks ts)) (sym (same_leaf (tree_of nodes) (sides_of nodes k)) ∙ ap (with_leaf (tree_of nodes) (sides_of nodes k)) (sym here)) ∙ s.reaches;
      },
    )

pub open_taken : (i : Instance) (x y : ℤ) (goal : Tree) (total : ℕ) (table : Table) (k : ℕ) (ks : List ℕ) (rest : List Part) → IsGrowing i x y goal total table (k ∷ ks) (opened ∷ rest) → IsGrowing i x y goal total table ks rest
open_taken i x y goal total table k ks rest g =
    let s = open_stands i x y goal table.nodes k ks rest g.trees g.stands in
    let room = g.room in
    let count = g.count in
    record { cities = g.cities; fixed = g.fixed; is_table = g.is_table; trees = s.0; stands = s.1; room = omega arith; count = omega arith }

-- ---- a leaf that is closed

-- what is known of the node that waits first, where a closed leaf comes
pub record ClosesFirst (i : Instance) (x : ℤ) (nodes : List Node) (k : ℕ) (c : Closing) : Type 0 where
  pub is_open : IsOpen nodes k
  pub fits : Fits i.n (path_at i.fixed nodes k) c
  pub is_closing : IsClosing i.n (path_at i.fixed nodes k) c
  pub exceeds : x <ℤ (bound i (path_at i.fixed nodes k) c)

closes_with : (i : Instance) (x y : ℤ) (goal : Tree) (nodes : List Node) (k : ℕ) (ks : List ℕ) (c : Closing) (rest : List Part) (ts : List Tree) → StandsWith i x y goal nodes (k ∷ ks) (closed c ∷ rest) ts → ClosesFirst i x nodes k c
closes_with i x y goal nodes k ks c rest [] s = absurd s.come
closes_with i x y goal nodes k ks c rest (t ∷ ts) s =
    let f = closed_first t c (flat_map preorder ts) rest s.parts in
    let h = s.come.0 in
    let sound = subst (λ u. IsSound i x (path_at i.fixed nodes k) u) f.0 h.sound in
    record { is_open = h.is_open; fits = subst (λ u. AllFit i.n (path_at i.fixed nodes k) u) f.0 h.fit; is_closing = sound.0; exceeds = sound.1 }

pub closes_first : (i : Instance) (x y : ℤ) (goal : Tree) (total : ℕ) (table : Table) (k : ℕ) (ks : List ℕ) (c : Closing) (rest : List Part) → IsGrowing i x y goal total table (k ∷ ks) (closed c ∷ rest) → ClosesFirst i x table.nodes k c
closes_first i x y goal total table k ks c rest g = closes_with i x y goal table.nodes k ks c rest g.trees g.stands

closed_stands : (i : Instance) (x y : ℤ) (goal : Tree) (nodes : List Node) (k : ℕ) (ks : List ℕ) (c : Closing) (rest : List Part) (ts : List Tree) → IsTable i.n i.fixed nodes → IsTable i.n i.fixed (closed_at nodes k c)
    → lt_z y (bound i (path_at i.fixed nodes k) c) ≡ true → StandsWith i x y goal nodes (k ∷ ks) (closed c ∷ rest) ts → (us : List Tree) × StandsWith i x y goal (closed_at nodes k c) ks rest us
closed_stands i x y goal nodes k ks c rest [] t u e s = absurd s.come
closed_stands i x y goal nodes k ks c rest (z ∷ ts) t u e s =
    let f = closed_first z c (flat_map preorder ts) rest s.parts in
    let h = s.come.0 in
    let fits : Fits i.n (path_at i.fixed nodes k) c = subst (λ v. AllFit i.n (path_at i.fixed nodes k) v) f.0 h.fit in
    let g = closed_grows nodes k c h.is_open.within in
    let here : reopened i y (path_at i.fixed nodes k) z ≡ closed_leaf c = ap (reopened i y (path_at i.fixed nodes k)) f.0 ∙ ap (λ v. cond v (closed_leaf c) open_leaf) e in
    let tree = (closing_keeps_tables i.n i.fixed nodes k c t h.is_open fits).tree in (
      ts,
      record {
        come = come_kept i x nodes (closed_at nodes k c) k t h.is_open g ks ts s.come.1 s.come.2;
        parts = f.1;
        reaches = ap (λ q. filled q (tree_of (closed_at nodes k c))) (fillings_kept i x y nodes (closed_at nodes k c) k t u h.is_open g ks ts s.come.2)
            ∙ ap (filled (fillings i y nodes ks ts)) (tree ∙ ap (with_leaf (tree_of nodes) (sides_of nodes k)) (sym here)) ∙ s.reaches;
      },
    )

closed_is_table : (i : Instance) (x : ℤ) (nodes : List Node) (k : ℕ) (c : Closing) → IsTable i.n i.fixed nodes → ClosesFirst i x nodes k c → IsTable i.n i.fixed (closed_at nodes k c)
closed_is_table i x nodes k c t f = (closing_keeps_tables i.n i.fixed nodes k c t f.is_open f.fits).is_table

pub closed_taken : (i : Instance) (x y : ℤ) (goal : Tree) (total : ℕ) (table : Table) (k : ℕ) (ks : List ℕ) (c : Closing) (rest : List Part) → lt_z y (bound i (path_at i.fixed table.nodes k) c) ≡ true
    → IsGrowing i x y goal total table (k ∷ ks) (closed c ∷ rest) → IsGrowing i x y goal total (record table { nodes = closed_at table.nodes k c }) ks rest
closed_taken i x y goal total table k ks c rest e g =
    let u = closed_is_table i x table.nodes k c g.is_table (closes_first i x y goal total table k ks c rest g) in
    let s = closed_stands i x y goal table.nodes k ks c rest g.trees g.is_table u e g.stands in
    let len = closed_length table.nodes k c in
    let room = g.room in
    let count = g.count in
    record { cities = g.cities; fixed = g.fixed; is_table = u; trees = s.0; stands = s.1; room = omega arith; count = omega arith }

-- a closed leaf that is too weak stays open
weak_stands : (i : Instance) (x y : ℤ) (goal : Tree) (nodes : List Node) (k : ℕ) (ks : List ℕ) (c : Closing) (rest : List Part) (ts : List Tree) → lt_z y (bound i (path_at i.fixed nodes k) c) ≡ false
    → StandsWith i x y goal nodes (k ∷ ks) (closed c ∷ rest) ts → (us : List Tree) × StandsWith i x y goal nodes ks rest us
weak_stands i x y goal nodes k ks c rest [] e s = absurd s.come
weak_stands i x y goal nodes k ks c rest (t ∷ ts) e s =
    let f = closed_first t c (flat_map preorder ts) rest s.parts in
    let here : reopened i y (path_at i.fixed nodes k) t ≡ open_leaf = ap (reopened i y (path_at i.fixed nodes k)) f.0 ∙ ap (λ v. cond v (closed_leaf c) open_leaf) e in (
      ts,
      record {
        come = s.come.2;
        parts = f.1;
        reaches = ap (filled (fillings i y nodes ks ts)) (sym (same_leaf (tree_of nodes) (sides_of nodes k)) ∙ ap (with_leaf (tree_of nodes) (sides_of nodes k)) (sym here)) ∙ s.reaches;
      },
    )

pub weak_taken : (i : Instance) (x y : ℤ) (goal : Tree) (total : ℕ) (table : Table) (k : ℕ) (ks : List ℕ) (c : Closing) (rest : List Part) → lt_z y (bound i (path_at i.fixed table.nodes k) c) ≡ false
    → IsGrowing i x y goal total table (k ∷ ks) (closed c ∷ rest) → IsGrowing i x y goal total table ks rest
weak_taken i x y goal total table k ks c rest e g =
    let s = weak_stands i x y goal table.nodes k ks c rest g.trees e g.stands in
    let room = g.room in
    let count = g.count in
    record { cities = g.cities; fixed = g.fixed; is_table = g.is_table; trees = s.0; stands = s.1; room = omega arith; count = omega arith }

-- ---- a split

-- what is known of the node that waits first, where a split comes
pub record SplitsFirst (i : Instance) (nodes : List Node) (k : ℕ) (b : Branch) (space : ℕ) : Type 0 where
  pub is_open : IsOpen nodes k
  pub fits : MaySplit i.n (path_at i.fixed nodes k) b
  pub room : 2 ≤ space

-- the parts of two trees and others
both_parts : (x y : Tree) (more rest : List Part) → rest ≡ (preorder x ++ preorder y) ++ more → 2 + length more ≤ length rest
both_parts x y more rest e =
    let a = some_nodes x in
    let b = some_nodes y in
    let l = length-append (preorder x ++ preorder y) more in
    let m = length-append (preorder x) (preorder y) in
    let same = ap length e in
    omega arith

splits_with : (i : Instance) (x y : ℤ) (goal : Tree) (nodes : List Node) (k : ℕ) (ks : List ℕ) (b : Branch) (rest : List Part) (ts : List Tree) (room : ℕ) → StandsWith i x y goal nodes (k ∷ ks) (split_part b ∷ rest) ts
    → 1 + length rest ≤ room + (1 + length ks) → SplitsFirst i nodes k b room
splits_with i x y goal nodes k ks b rest [] room s l = absurd s.come
splits_with i x y goal nodes k ks b rest (t ∷ ts) room s l =
    let f = split_first b t (flat_map preorder ts) rest s.parts in
    let h = s.come.0 in
    let sound = split_sound i x (path_at i.fixed nodes k) b f.0 f.1 (subst (λ u. IsSound i x (path_at i.fixed nodes k) u) f.2 h.sound) in
    let two = both_parts f.0 f.1 (flat_map preorder ts) rest f.3 in
    let many = parts_many i x nodes ks ts s.come.2 in
    record { is_open = h.is_open; fits = sound.0; room = omega arith }

pub splits_first : (i : Instance) (x y : ℤ) (goal : Tree) (total : ℕ) (table : Table) (k : ℕ) (ks : List ℕ) (b : Branch) (rest : List Part) → IsGrowing i x y goal total table (k ∷ ks) (split_part b ∷ rest) → SplitsFirst i table.nodes k b table.room
splits_first i x y goal total table k ks b rest g = let room = g.room in splits_with i x y goal table.nodes k ks b rest g.trees table.room g.stands (omega arith)

-- nodes that come behind all others are none of these
come_apart : (i : Instance) (x : ℤ) (nodes : List Node) (j : ℕ) (ks : List ℕ) (ts : List Tree) → length nodes ≤ j → AllCome i x nodes ks ts → AllByRecursion (λ k. k ≢ j) ks
come_apart i x nodes j [] ts l c = tt
come_apart i x nodes j (k ∷ ks) [] l c = absurd c
come_apart i x nodes j (k ∷ ks) (t ∷ ts) l c = let within = c.0.is_open.within in ((λ e. absurd (omega arith)), come_apart i x nodes j ks ts l c.2)

child_comes : (i : Instance) (x : ℤ) (nodes more : List Node) (k : ℕ) (b : Branch) (side : Side) (j : ℕ) (t : Tree) → IsChildAt i.fixed nodes more k b side j
    → IsSound i x (path_at i.fixed nodes k ++ condition_on b side ∷ []) t → AllFit i.n (path_at i.fixed nodes k ++ condition_on b side ∷ []) t → Comes i x more j t
child_comes i x nodes more k b side j t c s f = record { is_open = c.is_open; sound = subst (λ p. IsSound i x p t) (sym c.path) s; fit = subst (λ p. AllFit i.n p t) (sym c.path) f }

child_filling : (i : Instance) (y : ℤ) (nodes more : List Node) (k : ℕ) (b : Branch) (side : Side) (j : ℕ) (t : Tree) (q : Tree) → IsChildAt i.fixed nodes more k b side j
    → with_leaf q (sides_of more j) (reopened i y (path_at i.fixed more j) t) ≡ with_leaf q (sides_of nodes k ++ side ∷ []) (reopened i y (path_at i.fixed nodes k ++ condition_on b side ∷ []) t)
child_filling i y nodes more k b side j t q c =
    ap (λ p. with_leaf q p (reopened i y (path_at i.fixed more j) t)) c.place ∙ ap (λ p. with_leaf q (sides_of nodes k ++ side ∷ []) (reopened i y p t)) c.path

split_stands : (i : Instance) (x y : ℤ) (goal : Tree) (nodes : List Node) (k : ℕ) (ks : List ℕ) (b : Branch) (rest : List Part) (ts : List Tree) → IsTable i.n i.fixed nodes → IsTable i.n i.fixed (split_at nodes k b)
    → StandsWith i x y goal nodes (k ∷ ks) (split_part b ∷ rest) ts → (us : List Tree) × StandsWith i x y goal (split_at nodes k b) (length nodes ∷ (length nodes + 1) ∷ ks) rest us
split_stands i x y goal nodes k ks b rest [] t u s = absurd s.come
split_stands i x y goal nodes k ks b rest (z ∷ ts) t u s =
    let more = split_at nodes k b in
    let path = path_at i.fixed nodes k in
    let place = sides_of nodes k in
    let f = split_first b z (flat_map preorder ts) rest s.parts in
    let h = s.come.0 in
    let sound = split_sound i x path b f.0 f.1 (subst (λ v. IsSound i x path v) f.2 h.sound) in
    let fit = split_fit i.n path b f.0 f.1 (subst (λ v. AllFit i.n path v) f.2 h.fit) in
    let g = split_grows nodes k b h.is_open.within in
    let one = first_child i.n i.fixed nodes k b t u h.is_open in
    let two = second_child i.n i.fixed nodes k b t u h.is_open in
    let one_tree = reopened i y (path ++ condition_on b first ∷ []) f.0 in
    let two_tree = reopened i y (path ++ condition_on b second ∷ []) f.1 in
    let leaf = open_nodes_are_open_leaves i.n i.fixed nodes k t h.is_open in
    let tree = (splitting_keeps_tables i.n i.fixed nodes k b t h.is_open sound.0).tree in
    let here : reopened i y path z ≡ split_tree b one_tree two_tree = ap (reopened i y path) f.2 ∙ split_reopened i y path b f.0 f.1 in
    let both : with_leaf (with_leaf (tree_of more) (sides_of more (length nodes)) (reopened i y (path_at i.fixed more (length nodes)) f.0)) (sides_of more (length nodes + 1)) (reopened i y (path_at i.fixed more (length nodes + 1)) f.1)
    ≡ with_leaf (tree_of nodes) place (reopened i y path z) =
    child_filling i y nodes more k b second (length nodes + 1) f.1 (with_leaf (tree_of more) (sides_of more (length nodes)) (reopened i y (path_at i.fixed more (length nodes)) f.0)) two
    ∙ ap (λ q. with_leaf q (place ++ second ∷ []) two_tree) (child_filling i y nodes more k b first (length nodes) f.0 (tree_of more) one)
    ∙ ap (λ q. with_leaf (with_leaf q (place ++ first ∷ []) one_tree) (place ++ second ∷ []) two_tree) tree
    ∙ children_in_place (root i) (tree_of nodes) place path b one_tree two_tree leaf
    ∙ ap (with_leaf (tree_of nodes) place) (sym here) in (
      f.0 ∷ f.1 ∷ ts,
      record {
        come = (
          child_comes i x nodes more k b first (length nodes) f.0 one sound.1 fit.0,
          ((λ e. absurd (omega arith)), come_apart i x nodes (length nodes) ks ts (omega arith) s.come.2),
          (
            child_comes i x nodes more k b second (length nodes + 1) f.1 two sound.2 fit.1,
            come_apart i x nodes (length nodes + 1) ks ts (omega arith) s.come.2,
            come_kept i x nodes more k t h.is_open g ks ts s.come.1 s.come.2,
          ),
        );
        parts = f.3 ∙ append_assoc (preorder f.0) (preorder f.1) (flat_map preorder ts);
        reaches = ap (filled (fillings i y more ks ts)) both
            ∙ ap (λ q. filled q (with_leaf (tree_of nodes) place (reopened i y path z))) (fillings_kept i x y nodes more k t u h.is_open g ks ts s.come.2) ∙ s.reaches;
      },
    )

pub split_taken : (i : Instance) (x y : ℤ) (goal : Tree) (total : ℕ) (table : Table) (k : ℕ) (ks : List ℕ) (b : Branch) (rest : List Part) → IsGrowing i x y goal total table (k ∷ ks) (split_part b ∷ rest)
    → IsGrowing i x y goal total (record table { nodes = split_at table.nodes k b; room = table.room - 2 }) (length table.nodes ∷ (length table.nodes + 1) ∷ ks) rest
split_taken i x y goal total table k ks b rest g =
    let f = splits_first i x y goal total table k ks b rest g in
    let u = (splitting_keeps_tables i.n i.fixed table.nodes k b g.is_table f.is_open f.fits).is_table in
    let s = split_stands i x y goal table.nodes k ks b rest g.trees g.is_table u g.stands in
    let len = split_length table.nodes k b in
    let enough = f.room in
    let room = g.room in
    let count = g.count in
    record { cities = g.cities; fixed = g.fixed; is_table = u; trees = s.0; stands = s.1; room = omega arith; count = omega arith }

-- ---- the start and the end

pub growing_from : (i : Instance) (x y : ℤ) (t : Tree) (table : Table) (left : List Part) → ArePairs i.n i.fixed → IsSound i x (root i) t → AllFit i.n (root i) t → left ≡ preorder t
    → table.n ≡ i.n → table.fixed ≡ i.fixed → table.nodes ≡ fresh → length left ≤ table.room + 1 → IsGrowing i x y (reopened i y (root i) t) (length left) table (0 ∷ []) left
growing_from i x y t table left pairs sound fit e n fixed nodes room =
    let f = fresh_is_table i.n i.fixed pairs in
    let path = f.path in
    let nil : (xs : List Part) → xs ++ [] ≡ xs = nothing in
    let stands : StandsWith i x y (reopened i y (root i) t) fresh (0 ∷ []) left (t ∷ []) = record {
      come = (record { is_open = record { within = omega arith; is_open = refl }; sound = subst (λ p. IsSound i x p t) (sym path) sound; fit = subst (λ p. AllFit i.n p t) (sym path) fit }, tt, tt);
      parts = e ∙ sym (nothing (preorder t));
      reaches = ap (λ p. reopened i y p t) path;
    } in
    let len = ap length nodes in
    record {
      cities = n;
      fixed = fixed;
      is_table = subst (λ q. IsTable i.n i.fixed q) (sym nodes) f.is_table;
      trees = t ∷ [];
      stands = subst (λ q. StandsWith i x y (reopened i y (root i) t) q (0 ∷ []) left (t ∷ [])) (sym nodes) stands;
      room = room;
      count = omega arith;
    } where
      nothing : (xs : List Part) → xs ++ [] ≡ xs
      nothing [] = refl
      nothing (x ∷ xs) = ap (λ ys. x ∷ ys) (nothing xs)

-- a tree is to come, but no part is left
none_left : (t : Tree) (more : List Part) → [] ≡ preorder t ++ more → ⊥
none_left open_leaf more e = cc
none_left (closed_leaf c) more e = cc
none_left (edge_split u v a b) more e = cc
none_left (clique_split s a b) more e = cc

ended : (i : Instance) (x y : ℤ) (goal : Tree) (nodes : List Node) (ks : List ℕ) (ts : List Tree) → StandsWith i x y goal nodes ks [] ts → (tree_of nodes ≡ goal) × (length ks ≡ 0)
ended i x y goal nodes [] [] s = (s.reaches, refl)
ended i x y goal nodes [] (t ∷ ts) s = absurd s.come
ended i x y goal nodes (k ∷ ks) [] s = absurd s.come
ended i x y goal nodes (k ∷ ks) (t ∷ ts) s = absurd (none_left t (flat_map preorder ts) s.parts)

pub grown_to : (i : Instance) (x y : ℤ) (goal : Tree) (total : ℕ) (table : Table) (ks : List ℕ) → IsGrowing i x y goal total table ks [] → IsGrown i goal total table
grown_to i x y goal total table ks g =
    let e = ended i x y goal table.nodes ks g.trees g.stands in
    let none = e.1 in
    let count = g.count in
    record { cities = g.cities; fixed = g.fixed; tree = e.0; count = omega arith }

-- some node waits where a part is left
none_wait : (i : Instance) (x y : ℤ) (goal : Tree) (nodes : List Node) (part : Part) (rest : List Part) (ts : List Tree) → StandsWith i x y goal nodes [] (part ∷ rest) ts → ⊥
none_wait i x y goal nodes part rest [] s = let e = s.parts in cc
none_wait i x y goal nodes part rest (t ∷ ts) s = s.come

pub some_wait : (i : Instance) (x y : ℤ) (goal : Tree) (total : ℕ) (table : Table) (part : Part) (rest : List Part) → IsGrowing i x y goal total table [] (part ∷ rest) → ⊥
some_wait i x y goal total table part rest g = none_wait i x y goal table.nodes part rest g.trees g.stands

-- what exceeds the need of a bound exceeds that of a lesser level
pub exceeds_less : (level told : ℕ) (z : ℤ) → level ≤ told → needed told <ℤ z → needed level <ℤ z
exceeds_less level told z l h = omega (arith, ints)

-- ---- the same, as the code finds them

-- the first of the nodes that wait
from_first : (i : Instance) (x y : ℤ) (goal : Tree) (total : ℕ) (table : Table) (ws : List ℕ) (k : ℕ) (ks : List ℕ) (p q : Part) (rest : List Part) → ws ≡ k ∷ ks → p ≡ q
    → IsGrowing i x y goal total table ws (p ∷ rest) → IsGrowing i x y goal total table (k ∷ ks) (q ∷ rest)
from_first i x y goal total table ws k ks p q rest e f g =
    subst (λ r. IsGrowing i x y goal total table (k ∷ ks) (r ∷ rest)) f (subst (λ us. IsGrowing i x y goal total table us (p ∷ rest)) e g)

-- what a split asks for
pub record MayBeSplit (table : Table) (k : ℕ) (b : Branch) : Type 0 where
  pub is_open : IsOpen table.nodes k
  pub fits : MaySplit table.n (path_at table.fixed table.nodes k) b
  pub room : 2 ≤ table.room

pub may_split : (i : Instance) (x y : ℤ) (table : Table) (ws : List ℕ) (k : ℕ) (ks : List ℕ) (b : Branch) (p : Part) → ws ≡ k ∷ ks → p ≡ split_part b → (rest : List Part) × Grows i x y table ws (p ∷ rest) → MayBeSplit table k b
may_split i x y table ws k ks b p e f h =
    let rest = h.0 in let goal = h.1.0 in let total = h.1.1 in let g = h.1.2 in
    let s = splits_first i x y goal total table k ks b rest (from_first i x y goal total table ws k ks p (split_part b) rest e f g) in
    record {
      is_open = s.is_open;
      fits = subst (λ n. MaySplit n (path_at table.fixed table.nodes k) b) (sym g.cities) (subst (λ q. MaySplit i.n (path_at q table.nodes k) b) (sym g.fixed) s.fits);
      room = s.room;
    }

pub split_takes : (i : Instance) (x y : ℤ) (table more : Table) (ws us : List ℕ) (k : ℕ) (ks : List ℕ) (b : Branch) (p : Part) → ws ≡ k ∷ ks → p ≡ split_part b
    → more ≡ record table { nodes = split_at table.nodes k b; room = table.room - 2 } → us ≡ length table.nodes ∷ (length table.nodes + 1) ∷ ks
    → (goal : Tree) (total : ℕ) (rest : List Part) → IsGrowing i x y goal total table ws (p ∷ rest) → IsGrowing i x y goal total more us rest
split_takes i x y table more ws us k ks b p e f t u goal total rest g =
    subst (λ q. IsGrowing i x y goal total q us rest) (sym t)
    (subst (λ q. IsGrowing i x y goal total (record table { nodes = split_at table.nodes k b; room = table.room - 2 }) q rest) (sym u)
    (split_taken i x y goal total table k ks b rest (from_first i x y goal total table ws k ks p (split_part b) rest e f g)))

-- what closing asks for
pub record MayBeClosed (i : Instance) (x : ℤ) (table : Table) (k : ℕ) (c : Closing) : Type 0 where
  pub cities : table.n ≡ i.n
  pub fixed : table.fixed ≡ i.fixed
  pub first : ClosesFirst i x table.nodes k c

pub may_close : (i : Instance) (x y : ℤ) (table : Table) (ws : List ℕ) (k : ℕ) (ks : List ℕ) (c : Closing) (p : Part) → ws ≡ k ∷ ks → p ≡ closed c → (rest : List Part) × Grows i x y table ws (p ∷ rest) → MayBeClosed i x table k c
may_close i x y table ws k ks c p e f h =
    let rest = h.0 in let goal = h.1.0 in let total = h.1.1 in let g = h.1.2 in
    record { cities = g.cities; fixed = g.fixed; first = closes_first i x y goal total table k ks c rest (from_first i x y goal total table ws k ks p (closed c) rest e f g) }

either_closed : (i : Instance) (x y : ℤ) (goal : Tree) (total : ℕ) (table more : Table) (k : ℕ) (ks : List ℕ) (c : Closing) (rest : List Part) (v : Bool) → lt_z y (bound i (path_at i.fixed table.nodes k) c) ≡ v
    → more ≡ cond v (record table { nodes = closed_at table.nodes k c }) table → IsGrowing i x y goal total table (k ∷ ks) (closed c ∷ rest) → IsGrowing i x y goal total more ks rest
either_closed i x y goal total table more k ks c rest true e t g = subst (λ q. IsGrowing i x y goal total q ks rest) (sym t) (closed_taken i x y goal total table k ks c rest e g)
either_closed i x y goal total table more k ks c rest false e t g = subst (λ q. IsGrowing i x y goal total q ks rest) (sym t) (weak_taken i x y goal total table k ks c rest e g)

pub closed_takes : (i : Instance) (x y : ℤ) (table more : Table) (ws : List ℕ) (k : ℕ) (ks : List ℕ) (c : Closing) (p : Part) → ws ≡ k ∷ ks → p ≡ closed c
    → more ≡ cond (lt_z y (bound i (path_at i.fixed table.nodes k) c)) (record table { nodes = closed_at table.nodes k c }) table
    → (goal : Tree) (total : ℕ) (rest : List Part) → IsGrowing i x y goal total table ws (p ∷ rest) → IsGrowing i x y goal total more ks rest
closed_takes i x y table more ws k ks c p e f t goal total rest g =
    either_closed i x y goal total table more k ks c rest (lt_z y (bound i (path_at i.fixed table.nodes k) c)) refl t (from_first i x y goal total table ws k ks p (closed c) rest e f g)

pub open_takes : (i : Instance) (x y : ℤ) (table : Table) (ws : List ℕ) (k : ℕ) (ks : List ℕ) (p : Part) → ws ≡ k ∷ ks → p ≡ opened
    → (goal : Tree) (total : ℕ) (rest : List Part) → IsGrowing i x y goal total table ws (p ∷ rest) → IsGrowing i x y goal total table ks rest
open_takes i x y table ws k ks p e f goal total rest g = open_taken i x y goal total table k ks rest (from_first i x y goal total table ws k ks p opened rest e f g)

-- a tour is no node
tour_first : (t : Tree) (cities : List ℕ) (more rest : List Part) → the_tour cities ∷ rest ≡ preorder t ++ more → ⊥
tour_first open_leaf cities more rest e = cc
tour_first (closed_leaf c) cities more rest e = cc
tour_first (edge_split u v a b) cities more rest e = cc
tour_first (clique_split s a b) cities more rest e = cc

no_tour : (i : Instance) (x y : ℤ) (goal : Tree) (nodes : List Node) (ks : List ℕ) (cities : List ℕ) (rest : List Part) (ts : List Tree) → StandsWith i x y goal nodes ks (the_tour cities ∷ rest) ts → ⊥
no_tour i x y goal nodes ks cities rest [] s = let e = s.parts in cc
no_tour i x y goal nodes ks cities rest (t ∷ ts) s = tour_first t cities (flat_map preorder ts) rest s.parts

pub tour_takes : (i : Instance) (x y : ℤ) (table : Table) (ws : List ℕ) (cities : List ℕ) (p : Part) (any : Type 0) → p ≡ the_tour cities
    → (goal : Tree) (total : ℕ) (rest : List Part) → IsGrowing i x y goal total table ws (p ∷ rest) → any
tour_takes i x y table ws cities p any f goal total rest g =
    absurd (no_tour i x y goal table.nodes ws cities rest g.trees (subst (λ r. StandsWith i x y goal table.nodes ws (r ∷ rest) g.trees) f g.stands))

pub ok_then : {E : Type 0} (r : Result (Unit {0}) E) (P Q : Type 0) → OnOk r P → (P → Q) → OnOk r Q
ok_then (Ok v) P Q p f = f p
ok_then (Err e) P Q p f = tt

pub length_parts : (f : P.Part → Part) (ps : List P.Part) → length (map f ps) ≡ length ps
length_parts f [] = refl
length_parts f (p ∷ ps) = let r = length_parts f ps in omega arith

-- the start, as the code finds it
pub starts : (i : Instance) (told level : ℕ) (table : Table) (ps : List P.Part) (ws : List ℕ) → AreFixable i.n i.fixed → ws ≡ 0 ∷ [] → table ≡ record { n = i.n; fixed = i.fixed; nodes = fresh; room = length ps }
    → (said : Tree) → IsSaid i told (parts_of ps) said → IsGrowing i (needed told) (needed level) (reopened_for i level said) (length (parts_of ps)) table ws (parts_of ps)
starts i told level table ps ws pairs e f said h =
    let len = length_parts part_of ps in
    let fresh_table : Table = record { n = i.n; fixed = i.fixed; nodes = fresh; room = length ps } in
    subst (λ q. IsGrowing i (needed told) (needed level) (reopened_for i level said) (length (parts_of ps)) q ws (parts_of ps)) (sym f)
    (subst (λ q. IsGrowing i (needed told) (needed level) (reopened_for i level said) (length (parts_of ps)) fresh_table q (parts_of ps)) (sym e)
    (growing_from i (needed told) (needed level) said fresh_table (parts_of ps) (record { below = pairs.below; rising = pairs.rising }) h.sound h.fit h.all refl refl refl (omega arith)))

-- the end
pub ends : (i : Instance) (told level : ℕ) (table : Table) (ps left : List P.Part) (ws : List ℕ) → length left ≡ 0
    → ((said : Tree) → IsSaid i told (parts_of ps) said → IsGrowing i (needed told) (needed level) (reopened_for i level said) (length (parts_of ps)) table ws (parts_of left))
    → (said : Tree) → IsSaid i told (parts_of ps) said → IsGrown i (reopened_for i level said) (length ps) table
ends i told level table ps [] ws e g said h =
    let k = grown_to i (needed told) (needed level) (reopened_for i level said) (length (parts_of ps)) table ws (g said h) in
    record { cities = k.cities; fixed = k.fixed; tree = k.tree; count = k.count ∙ length_parts part_of ps }
ends i told level table ps (p ∷ left) ws e g said h = absurd (omega arith)
