-- values that pass a resumer's tests are restart bodies
use Rattle.std.proofs.Common.{◌≡◌, ℕ, ◌+◌, ◌-◌, ◌^◌, ◌<◌, ◌≤◌, Bool, true, false, cond, ◌&&◌, List, [], ◌∷◌, ◌++◌, length, map, ℤ, refl, sym, ap, ◌∙◌, subst, arith}
use Rattle.std.specs.Prelude.{◌==◌, ◌↔◌}
use Rattle.std.specs.List.{flat_map, AllByRecursion}
use Rattle.std.specs.Int.Signed.{lt_z}
use Rattle.std.proofs.lemmas.Bool.{and_parts, and_from, eq-eqb, eqb-true}
use Rattle.tspdef.specs.Instances.{Instance, length_in}
use Rattle.tspdef.specs.Cuts.{IsCut}
use Rattle.tspdef.specs.Paths.{Condition, absent, present, two, four, condition_at, root}
use Rattle.tspdef.specs.Closings.{Closing, IsClosing}
use Rattle.tspdef.specs.Bounds.{bound, needed}
use Rattle.tspdef.specs.Trees as trees
use Rattle.tspdef.specs.Trees.{Tree, IsSound}
use Rattle.certdef.specs.Items.{Item, leaf_line, fits}
use Rattle.certdef.specs.Proofs.{Listed, Duals, Written, open_leaf, closed_leaf, edge_split, clique_split, Proof, listed_items, dual_items, tree_items, head_items, lines, text_of}
use Rattle.certdef.specs.Accepted.{from_zero, cuts_of, closing_of, tree_of, tree_in, firsts, is_clique, name_cliques, LeavesRise, DepthsName, HasForm}
use Rattle.certdef.specs.Verdicts.{Head, wants_title, go, yes, verdict_by}
use Rattle.certdef.specs.Bytes.{reads, start, bytes_on, verdict_at_end}
use Rattle.verdict.specs.Bodies.{merged_cuts, merged_closing, merged, IsBodyProof, IsBodyText, sums_fit, suffices, resumer, body_verdict, reopened, resumed, YesIsBodyText, ResumedIsSound}
use Rattle.verdict.proofs.Left.{all_named, Good}
use Rattle.verdict.proofs.Runs.{AreOfForm, IsGood, AreGood, body, items_said, yes_is_good}
use Rattle.verdict.proofs.Decisions.{tour_from_one_yes, yes_tour_from_one, proper_yes, yes_proper, cut_yes, yes_cut, below_z, z_below}
use Rattle.verdict.proofs.Values.{all_first, all_last, edge_bounds, duals_are_closing, bound_yes, yes_bound, cuts_yes, yes_cuts, depths_at_root, depths_from_root}
use Rattle.verdict.proofs.Bytes.{bytes_lines, lines_bytes, none_or_some}
use Rattle.verdict.proofs.Merging.{merged_is_closing, fit_sizes}

-- ---- trees

cliques_yes : (i : Instance) (path : List Condition) (ds : List ℕ) → all_named (resumer i) path ds ≡ true → name_cliques path ds ≡ true
cliques_yes i path [] e = refl
cliques_yes i path (d ∷ ds) e =
    let p = and_parts (is_clique (condition_at path d)) (all_named (resumer i) path ds) e in
    and_from (is_clique (condition_at path d)) (name_cliques path ds) p.0 (cliques_yes i path ds p.1)

yes_cliques : (i : Instance) (path : List Condition) (ds : List ℕ) → name_cliques path ds ≡ true → all_named (resumer i) path ds ≡ true
yes_cliques i path [] e = refl
yes_cliques i path (d ∷ ds) e =
    let p = and_parts (is_clique (condition_at path d)) (name_cliques path ds) e in
    and_from (is_clique (condition_at path d)) (all_named (resumer i) path ds) p.0 (yes_cliques i path ds p.1)

-- what a written tree is for a bound, with cuts listed
pub record IsWell (i : Instance) (h : Head) (path : List Condition) (t : Written) : Type 0 where
  pub rise : LeavesRise i.n (length h.cuts) t
  pub depths : DepthsName path t
  pub sound : IsSound i (needed h.bound) path (merged (tree_of i.n (cuts_of i.n h.cuts) t))

tree_yes : (i : Instance) (h : Head) (path : List Condition) (t : Written) → AllByRecursion (IsCut i.n) (cuts_of i.n h.cuts) → AreOfForm i.n (tree_items t) → Good (resumer i) h path t → IsWell i h path t
tree_yes i h path open_leaf c f g = record { rise = tt; depths = tt; sound = tt }
tree_yes i h path (closed_leaf d) c f g =
    let o = g.0 in
    let named = cliques_yes i path (firsts d.conds) o.named in
    let all = closing_of i.n (cuts_of i.n h.cuts) d in
    let p = and_parts (sums_fit (merged_cuts all.cuts)) (lt_z (needed h.bound) (bound i path (merged_closing all))) g.1 in
    record {
      rise = record { cities = o.cities; cuts = o.cuts; conds = o.conds };
      depths = named;
      sound = (
        merged_is_closing i.n path all (duals_are_closing i.n h.cuts path d c f o.cuts named) p.0,
        below_z (needed h.bound) (bound i path (merged_closing all)) p.1,
      );
    }
tree_yes i h path (edge_split u v t s) c f g =
    let P : Item → Type 0 = λ x. fits i.n x ≡ true in
    let a = tree_yes i h (path ++ absent (u - 1) (v - 1) ∷ []) t c (all_first P (tree_items t) (tree_items s) f.1) g.1.0 in
    let b = tree_yes i h (path ++ present (u - 1) (v - 1) ∷ []) s c (all_last P (tree_items t) (tree_items s) f.1) g.1.1 in
    record { rise = (a.rise, b.rise); depths = (a.depths, b.depths); sound = ((edge_bounds i.n u v f.0, g.0), (a.sound, b.sound)) }
tree_yes i h path (clique_split q t s) c f g =
    let P : Item → Type 0 = λ x. fits i.n x ≡ true in
    let a = tree_yes i h (path ++ two (from_zero q) ∷ []) t c (all_first P (tree_items t) (tree_items s) f.1) g.1.0 in
    let b = tree_yes i h (path ++ four (from_zero q) ∷ []) s c (all_last P (tree_items t) (tree_items s) f.1) g.1.1 in
    record { rise = (a.rise, b.rise); depths = (a.depths, b.depths); sound = (proper_yes i.n (from_zero q) g.0, (a.sound, b.sound)) }

pub yes_tree : (i : Instance) (h : Head) (path : List Condition) (t : Written) → LeavesRise i.n (length h.cuts) t → DepthsName path t → IsSound i (needed h.bound) path (merged (tree_of i.n (cuts_of i.n h.cuts) t))
    → Good (resumer i) h path t
yes_tree i h path open_leaf o w s = refl
yes_tree i h path (closed_leaf d) o w s =
    let all = closing_of i.n (cuts_of i.n h.cuts) d in (
      record { cities = o.cities; cuts = o.cuts; conds = o.conds; named = yes_cliques i path (firsts d.conds) w },
      and_from (sums_fit (merged_cuts all.cuts)) (lt_z (needed h.bound) (bound i path (merged_closing all))) (fit_sizes (merged_cuts all.cuts) s.0.sizes.cuts)
          (z_below (needed h.bound) (bound i path (merged_closing all)) s.1),
    )
yes_tree i h path (edge_split u v t z) o w s = (
  s.0.1,
  (yes_tree i h (path ++ absent (u - 1) (v - 1) ∷ []) t o.0 w.0 s.1.0, yes_tree i h (path ++ present (u - 1) (v - 1) ∷ []) z o.1 w.1 s.1.1),
)
yes_tree i h path (clique_split q t z) o w s = (
  yes_proper i.n (from_zero q) s.0,
  (yes_tree i h (path ++ two (from_zero q) ∷ []) t o.0 w.0 s.1.0, yes_tree i h (path ++ four (from_zero q) ∷ []) z o.1 w.1 s.1.1),
)

-- ---- whole values

-- the lines are those of a value of the grammar that is a restart body
pub record AreLinesOf (i : Instance) (ls : List (List ℕ)) (l b : ℕ) (p : Proof) : Type 0 where
  pub lines : ls ≡ lines p
  pub form : HasForm i.n p
  pub body : IsBodyProof i l b p

abbrev pub AreBody : Instance → List (List ℕ) → ℕ → ℕ → Type 0
AreBody i ls l b = (p : Proof) × AreLinesOf i ls l b p

good_body : (i : Instance) (l b : ℕ) (ls : List (List ℕ)) → AreGood (resumer i) ls (l, b) → AreBody i ls l b
good_body i l b ls (p, e, f, g) =
    let P : Item → Type 0 = λ x. fits i.n x ≡ true in
    let cs = from_zero p.tour in
    let tour = tour_from_one_yes i p.tour g.is_tour in
    let cuts = cuts_yes i.n p.cuts g.cuts in
    let behind : AreOfForm i.n (body p.tour p.cuts p.tree) = all_last P (head_items p.cities p.long p.bound) (body p.tour p.cuts p.tree) (subst (λ r. AreOfForm i.n r) (items_said p) f) in
    let tree = tree_yes i (record { long = l; bound = b; cuts = p.cuts }) (root i) p.tree cuts (all_last P (flat_map listed_items p.cuts) (tree_items p.tree) behind.1.1) g.tree in (
      p,
      record {
        lines = e;
        form = record { readable = record { lines = f; pairs = g.pairs; rise = tree.rise }; depths = depths_from_root i p.tree tree.depths };
        body = record {
          about = record { size = eqb-true p.cities i.n g.size; same = g.same_length; bound = bound_yes i p.bound l b g.bound; cuts = cuts; from_one = tour.from_one };
          is_tour = tour.is_tour;
          canonical = tour.canonical;
          long = sym (eqb-true (length_in i cs) l g.long);
          sound = tree.sound;
        };
      },
    )

pub body_is_good : (i : Instance) (l b : ℕ) (p : Proof) → HasForm i.n p → IsBodyProof i l b p → IsGood (resumer i) (l, b) p
body_is_good i l b p f a =
    let about = a.about in
    record {
      size = eq-eqb p.cities i.n about.size;
      same_length = about.same;
      bound = yes_bound i p.bound l b about.bound;
      is_tour = yes_tour_from_one i p.tour about.from_one a.is_tour a.canonical;
      long = eq-eqb (length_in i (from_zero p.tour)) l (sym a.long);
      pairs = f.readable.pairs;
      cuts = yes_cuts i.n p.cuts about.cuts;
      tree = yes_tree i (record { long = l; bound = b; cuts = p.cuts }) (root i) p.tree f.readable.rise (depths_at_root i p.tree f.depths) a.sound;
    }

body_good : (i : Instance) (l b : ℕ) (ls : List (List ℕ)) → AreBody i ls l b → AreGood (resumer i) ls (l, b)
body_good i l b ls (p, k) = (p, k.lines, k.form.readable.lines, body_is_good i l b p k.form k.body)

pub yes_is_body : (i : Instance) (ls : List (List ℕ)) (l b : ℕ) → i.n < 2 ^ 32 → (verdict_by (resumer i) ls ≡ yes l b) ↔ AreBody i ls l b
yes_is_body i ls l b h =
    let y = yes_is_good (resumer i) ls (l, b) h in
    (λ e. good_body i l b ls (y.0 e), λ a. y.1 (body_good i l b ls a))

pub yes_is_body_text : YesIsBodyText
yes_is_body_text i bytes l b h = (
  λ e. let k = bytes_lines (resumer i) (l, b) start bytes e in
      let a = (yes_is_body i k.lines l b h).0 k.verdict in
      (none_or_some bytes k.few, a.0, record { text = k.said ∙ ap text_of a.1.lines; form = a.1.form; body = a.1.body }),
  λ a. let p = a.1 in
      let e = (yes_is_body i (lines p) l b h).1 (p, record { lines = refl; form = a.2.form; body = a.2.body }) in
      let few = a.0 in
      let same = ap length a.2.text in
      ap (λ x. verdict_at_end (bytes_on (resumer i) (reads start) x)) a.2.text ∙ lines_bytes (resumer i) (l, b) 1 0 (go wants_title) (lines p) h (omega arith) e,
)

-- ---- the tree that a search goes on from

either_sound : (i : Instance) (number : ℤ) (path : List Condition) (c : Closing) (b : Bool) → lt_z number (bound i path c) ≡ b → IsClosing i.n path c → IsSound i number path (cond b (trees.closed_leaf c) trees.open_leaf)
either_sound i number path c true e k = (k, below_z number (bound i path c) e)
either_sound i number path c false e k = tt

pub reopened_is_sound : (i : Instance) (x y : ℤ) (path : List Condition) (t : Tree) → IsSound i x path t → IsSound i y path (reopened i y path t)
reopened_is_sound i x y path trees.open_leaf s = tt
reopened_is_sound i x y path (trees.closed_leaf c) s = either_sound i y path c (lt_z y (bound i path c)) refl s.0
reopened_is_sound i x y path (trees.edge_split u v a b) s =
    (s.0, (reopened_is_sound i x y (path ++ absent u v ∷ []) a s.1.0, reopened_is_sound i x y (path ++ present u v ∷ []) b s.1.1))
reopened_is_sound i x y path (trees.clique_split q a b) s =
    (s.0, (reopened_is_sound i x y (path ++ two q ∷ []) a s.1.0, reopened_is_sound i x y (path ++ four q ∷ []) b s.1.1))

pub resumed_is_sound : ResumedIsSound
resumed_is_sound i l b m p k = reopened_is_sound i (needed b) (needed m) (root i) (merged (tree_in i.n p)) k.sound
