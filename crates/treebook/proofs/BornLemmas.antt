-- A sound tree is sound at each of its nodes, and what that says of the bounds that it bears.
use Rattle.std.proofs.Common.{◌≡◌, ℕ, zero, suc, ◌+◌, ◌*◌, ◌<◌, ◌≤◌, true, List, [], ◌∷◌, ◌++◌, length, refl, sym, ◌∙◌, ap, subst, arith, ⊎_elim, eq-eqb}
use Rattle.std.specs.Prelude.{◌==◌, ℤ, pos, neg_ℤ, ◌<ℤ◌, ◌≤ℤ◌, ◌-ℤ◌, cond}
use Rattle.std.proofs.lemmas.Int.{ints}
use Rattle.std.proofs.lemmas.Bool.{cases_Bool, cases_lt, cond-true, cond-false, eqb-true, or_cases, false≢true}
use Rattle.std.proofs.lemmas.List.{append-nil}
use Rattle.tspdef.specs.Instances.{Instance}
use Rattle.tspdef.specs.Paths.{Condition, root}
use Rattle.tspdef.specs.Closings.{Closing}
use Rattle.tspdef.specs.Bounds.{needed, bound}
use Rattle.tspdef.specs.Trees.{Tree, first, second, IsSound, IsSoundFor}
use Rattle.treebook.specs.Tables.{Branch, on_edge, on_clique, State, open_node, closed_node, split_node, Node, parent_at, state_at, condition_on, condition_under, own_condition, path_at, split_tree, grown, tree_at, tree_of, is_child, IsTable}
use Rattle.treebook.specs.Laws.{ClosesFor, SoundTablesClose}
use Rattle.treebook.specs.Borne.{IsGreatestSoFar, IsBorneAt}
use Rattle.treebook.proofs.WayLemmas.{from_parents, path_step}
use Rattle.treebook.proofs.TreeLemmas.{are_behind, tree_step}

-- the two children of a sound split are sound, each on its path
split_parts : (i : Instance) (number : ℤ) (path : List Condition) (b : Branch) (x y : Tree) → IsSound i number path (split_tree b x y)
    → IsSound i number (path ++ condition_on b first ∷ []) x × IsSound i number (path ++ condition_on b second ∷ []) y
split_parts i number path (on_edge u v) x y h = h.1
split_parts i number path (on_clique s) x y h = h.1

child_sound : (i : Instance) (number : ℤ) (path : List Condition) (s : State) (below : ℕ → Tree) (k : ℕ) → is_child s k ≡ true
    → IsSound i number path (grown below s) → IsSound i number (path ++ condition_under s k ∷ []) (below k)
child_sound i number path open_node below k is h = absurd (false≢true is)
child_sound i number path (closed_node c) below k is h = absurd (false≢true is)
child_sound i number path (split_node b child) below k is h =
    let parts = split_parts i number path b (below child) (below (child + 1)) h in
    ⊎_elim
    (λ e. let c : condition_on b (cond (k == child) first second) ≡ condition_on b first = ap (condition_on b) (cond-true (k == child) first second e) in
    subst (λ (q : Condition). IsSound i number (path ++ q ∷ []) (below k)) (sym c) (subst (λ (j : ℕ). IsSound i number (path ++ condition_on b first ∷ []) (below j)) (sym (eqb-true k child e)) parts.0))
    (λ ne. ⊎_elim
    (λ e. absurd (false≢true (sym ne ∙ e)))
    (λ e. let c : condition_on b (cond (k == child) first second) ≡ condition_on b second = ap (condition_on b) (cond-false (k == child) first second ne) in
    subst (λ (q : Condition). IsSound i number (path ++ q ∷ []) (below k)) (sym c) (subst (λ (j : ℕ). IsSound i number (path ++ condition_on b second ∷ []) (below j)) (sym (eqb-true k (child + 1) e)) parts.1))
    (or_cases (k == child) (k == child + 1) is))
    (cases_Bool (k == child))

-- soundness at a node
abbrev SoundAt : Instance → ℤ → List Node → ℕ → Type 0
SoundAt i number nodes k = IsSound i number (path_at i.fixed nodes k) (tree_at nodes k)

sound_at : (i : Instance) (number : ℤ) (nodes : List Node) → IsTable i.n i.fixed nodes → IsSound i number (root i) (tree_of nodes)
    → (k : ℕ) → k < length nodes → SoundAt i number nodes k
sound_at i number nodes t h k m =
    let behind = are_behind i.n i.fixed nodes t in
    from_parents (SoundAt i number nodes) nodes behind
    (subst (λ (p : List Condition). IsSound i number p (tree_of nodes)) (sym (append-nil (root i))) h)
    (λ j some within above.
    let less = behind j some within in
    let grows = subst (IsSound i number (path_at i.fixed nodes (parent_at nodes j))) (tree_step i.n i.fixed nodes (parent_at nodes j) t (omega arith)) above in
    subst (λ (p : List Condition). IsSound i number p (tree_at nodes j)) (sym (path_step i.fixed nodes j behind some within))
    (child_sound i number (path_at i.fixed nodes (parent_at nodes j)) (state_at nodes (parent_at nodes j)) (tree_at nodes) j (t.parents j some within).child grows))
    (length nodes) k (omega arith) m

closed_sound : (i : Instance) (number : ℤ) (nodes : List Node) (k : ℕ) (c : Closing) → IsTable i.n i.fixed nodes → k < length nodes → state_at nodes k ≡ closed_node c
    → SoundAt i number nodes k → number <ℤ (bound i (path_at i.fixed nodes k) c)
closed_sound i number nodes k c t m is h =
    let leaf = tree_step i.n i.fixed nodes k t m ∙ ap (grown (tree_at nodes)) is in
    (subst (IsSound i number (path_at i.fixed nodes k)) leaf h).1

pub sound_tables_close : SoundTablesClose
sound_tables_close i nodes l t h k c m is = closed_sound i (needed l) nodes k c t m is (sound_at i (needed l) nodes t h k m)

-- ---- the greatest bound over the nodes that were looked at

needed_less : (l m : ℕ) → m ≤ l → needed m ≤ℤ (needed l)
needed_less l m h = omega (arith, ints)

pub none_so_far : (i : Instance) (nodes : List Node) (l : ℕ) → IsGreatestSoFar i nodes l 0 l
none_so_far i nodes l = record { below = omega arith; closes = λ j c less is. absurd (omega arith); greatest = λ a less h. less }

pub one_further : (i : Instance) (nodes : List Node) (l k b : ℕ) → IsGreatestSoFar i nodes l k b → (a : ℕ) → IsBorneAt i nodes b k a → IsGreatestSoFar i nodes l (k + 1) a
one_further i nodes l k b so_far a here =
    let b_low = so_far.below in let a_low = here.below in
    record {
      below = omega arith;
      closes = λ j c less is. ⊎_elim
          (λ before. let x = so_far.closes j c before is in let y = needed_less b a a_low in omega (arith, ints))
          (λ last. let e : j ≡ k = omega arith in
          subst (λ (q : ℕ). needed a <ℤ (bound i (path_at i.fixed nodes q) c)) (sym e) (here.closes c (subst (λ (q : ℕ). state_at nodes q ≡ closed_node c) e is)))
          (cases_lt j k);
      greatest = λ m less h. here.greatest m (so_far.greatest m less h) h;
    }
