-- What is written of a search.
use Rattle.std.proofs.Common.{◌≡◌, ℕ, ◌+◌, ◌-◌, ◌<◌, ◌≤◌, List, [], ◌∷◌, ◌++◌, length, refl, sym, ap, subst, ◌∙◌, arith}
use Rattle.tspdef.specs.Tours.{IsCanonicalForm}
use Rattle.tspdef.specs.Instances.{Instance, length_in}
use Rattle.tspdef.specs.Paths.{Condition, root, absent, present, two, four}
use Rattle.tspdef.specs.Closings.{Closing}
use Rattle.tspdef.specs.Trees.{Tree, open_leaf, closed_leaf, edge_split, clique_split, IsSoundFor, Covers, open_leaves, settled}
use Rattle.tspdef.specs.Laws.{AcceptedIsBelow, SameCycleIsSameTour, CanonicalFormIsOne}
use Rattle.tspdef.proofs.Covering.{sound_below, root_obeyed}
use Rattle.certdef.specs.Proofs.{text}
use Rattle.certdef.specs.Accepted.{from_zero, tree_in, IsAcceptedText, IsTextOf}
use Rattle.certdef.specs.Restarts.{ClosedIsAccepted}
use Rattle.certform.specs.Written.{from_one, written, IsBody}
use Rattle.certform.specs.Faithful.{AreAlike, WrittenIsFaithful, FaithfulIsAccepted, TablesFit}
use Rattle.treebook.specs.Tables.{on_edge, on_clique, tree_of}
use Rattle.treebook.specs.Laws.{IsGreatestBound, LessIsKept}
use Rattle.worker.specs.Splits.{IsNeededSplit}
use Rattle.bossx.specs.Books.{Book, best_length, level}
use Rattle.bossx.specs.Kept.{IsBook}
use Rattle.tspround.specs.Splits.{Kinds, AllSplits, GrownBy}
use Rattle.tspengine.specs.Growth.{HasGrown}
use Rattle.tspengine.specs.Saves.{IsBodyOn}
use Rattle.tspengine.specs.Outcomes.{IsProved, IsBodyOf, Bears}
use Rattle.tspengine.specs.Searches.{start_in, IsSearch, IsTextOfBook}
use Rattle.tspengine.specs.Texts.{stopped_text}

-- counted from 1 and back
pub from_zero-from_one : (s : List ℕ) → from_zero (from_one s) ≡ s
from_zero-from_one [] = refl
from_zero-from_one (c ∷ cs) = let ih = from_zero-from_one cs in let e : c + 1 - 1 ≡ c = omega arith in cc

-- the tree that is read back has splits at the same nodes, by the same pairs and sets
alike_split : (P : Kinds) (path : List Condition) (t u : Tree) → AreAlike t u → AllSplits P path t → AllSplits P path u
alike_split P path open_leaf open_leaf a n = tt
alike_split P path open_leaf (closed_leaf d) a n = absurd a
alike_split P path open_leaf (edge_split x y c d) a n = absurd a
alike_split P path open_leaf (clique_split r c d) a n = absurd a
alike_split P path (closed_leaf k) open_leaf a n = absurd a
alike_split P path (closed_leaf k) (closed_leaf d) a n = tt
alike_split P path (closed_leaf k) (edge_split x y c d) a n = absurd a
alike_split P path (closed_leaf k) (clique_split r c d) a n = absurd a
alike_split P path (edge_split u v p q) open_leaf a n = absurd a
alike_split P path (edge_split u v p q) (closed_leaf d) a n = absurd a
alike_split P path (edge_split u v p q) (edge_split x y c d) a n =
    let by : on_edge u v ≡ on_edge x y = sym (ap (λ z. on_edge z y) a.0.0 ∙ ap (on_edge u) a.0.1) in
    let without : absent u v ≡ absent x y = sym (ap (λ z. absent z y) a.0.0 ∙ ap (absent u) a.0.1) in
    let with : present u v ≡ present x y = sym (ap (λ z. present z y) a.0.0 ∙ ap (present u) a.0.1) in (
      subst (P path) by n.0,
      (
        subst (λ (w : Condition). AllSplits P (path ++ w ∷ []) c) without (alike_split P (path ++ absent u v ∷ []) p c a.1.0 n.1.0),
        subst (λ (w : Condition). AllSplits P (path ++ w ∷ []) d) with (alike_split P (path ++ present u v ∷ []) q d a.1.1 n.1.1),
      ),
    )
alike_split P path (edge_split u v p q) (clique_split r c d) a n = absurd a
alike_split P path (clique_split s p q) open_leaf a n = absurd a
alike_split P path (clique_split s p q) (closed_leaf d) a n = absurd a
alike_split P path (clique_split s p q) (edge_split x y c d) a n = absurd a
alike_split P path (clique_split s p q) (clique_split r c d) a n =
    let by : on_clique s ≡ on_clique r = ap on_clique (sym a.0) in
    let twice : two s ≡ two r = ap two (sym a.0) in
    let more : four s ≡ four r = ap four (sym a.0) in (
      subst (P path) by n.0,
      (
        subst (λ (w : Condition). AllSplits P (path ++ w ∷ []) c) twice (alike_split P (path ++ two s ∷ []) p c a.1.0 n.1.0),
        subst (λ (w : Condition). AllSplits P (path ++ w ∷ []) d) more (alike_split P (path ++ four s ∷ []) q d a.1.1 n.1.1),
      ),
    )

-- and so it has grown as the tree that was written
closed_grown : (P : Kinds) (path : List Condition) (c d : Closing) (u : Tree) → AreAlike (closed_leaf d) u → HasGrown P path (closed_leaf c) u
closed_grown P path c d open_leaf a = absurd a
closed_grown P path c d (closed_leaf e) a = tt
closed_grown P path c d (edge_split x y p q) a = absurd a
closed_grown P path c d (clique_split r p q) a = absurd a

edge_alike : (u v : ℕ) (c d t : Tree) → AreAlike (edge_split u v c d) t → (x : ℕ) × (y : ℕ) × (e : Tree) × (f : Tree) × (t ≡ edge_split x y e f) × (((x ≡ u) × (y ≡ v)) × (AreAlike c e × AreAlike d f))
edge_alike u v c d open_leaf a = absurd a
edge_alike u v c d (closed_leaf k) a = absurd a
edge_alike u v c d (edge_split x y e f) a = (x, y, e, f, refl, a)
edge_alike u v c d (clique_split r e f) a = absurd a

clique_alike : (s : List ℕ) (c d t : Tree) → AreAlike (clique_split s c d) t → (r : List ℕ) × (e : Tree) × (f : Tree) × (t ≡ clique_split r e f) × ((r ≡ s) × (AreAlike c e × AreAlike d f))
clique_alike s c d open_leaf a = absurd a
clique_alike s c d (closed_leaf k) a = absurd a
clique_alike s c d (edge_split x y e f) a = absurd a
clique_alike s c d (clique_split r e f) a = (r, e, f, refl, a)

pub alike_grown : (P : Kinds) (path : List Condition) (first t u : Tree) → GrownBy P path first t → AreAlike t u → HasGrown P path first u
alike_grown P path open_leaf t u g a = alike_split P path t u a g
alike_grown P path (closed_leaf c) t u g a = closed_grown P path c c u (subst (λ (x : Tree). AreAlike x u) g a)
alike_grown P path (edge_split u v p q) t w (c, d, e, one, other) a =
    let f = edge_alike u v c d w (subst (λ (z : Tree). AreAlike z w) e a) in
    subst (λ (z : Tree). HasGrown P path (edge_split u v p q) z) (sym f.4)
    (f.5.0, (alike_grown P (path ++ absent u v ∷ []) p c f.2 one f.5.1.0, alike_grown P (path ++ present u v ∷ []) q d f.3 other f.5.1.1))
alike_grown P path (clique_split s p q) t w (c, d, e, one, other) a =
    let f = clique_alike s c d w (subst (λ (z : Tree). AreAlike z w) e a) in
    subst (λ (z : Tree). HasGrown P path (clique_split s p q) z) (sym f.3)
    (f.4.0, (alike_grown P (path ++ two s ∷ []) p c f.1 one f.4.1.0, alike_grown P (path ++ four s ∷ []) q d f.2 other f.4.1.1))

-- the tree of a sound value covers
pub sound_covers : (i : Instance) (l : ℕ) (t : Tree) → 3 ≤ i.n → IsSoundFor i l t → Covers i t l
sound_covers i l t many sound = λ tour is. sound_below i l (root i) t tour many is sound (root_obeyed i tour is)

-- ---- the text of a book

-- the bound that the tree bears is no less than the level
near_bound : (b : Book) (bound : ℕ) → IsBook b → IsGreatestBound b.instance (best_length b) (tree_of b.tree.nodes) bound → best_length b ≤ bound + b.gap
near_bound b bound is greatest =
    let most = greatest.greatest (level b) (omega arith) is.sound in
    omega arith

-- there is room for all nodes
few_nodes : (b : Book) → IsBook b → IsSearch b → length b.tree.nodes ≤ 1048576
few_nodes b is search =
    let made = is.charged.made in
    let within = is.charged.within in
    let few = search.few in
    omega arith

pub room_of : (b : Book) → IsBook b → IsSearch b → length b.tree.nodes ≤ 1048576
room_of b is search = few_nodes b is search

pub text_of_book : WrittenIsFaithful → FaithfulIsAccepted → TablesFit → SameCycleIsSameTour → LessIsKept
    → (b : Book) (bound : ℕ) (bytes : List ℕ) → IsBook b → IsSearch b → open_leaves (tree_of b.tree.nodes) + settled (tree_of b.tree.nodes) ≡ length b.tree.nodes
    → IsGreatestBound b.instance (best_length b) (tree_of b.tree.nodes) bound
    → IsBody b.instance b.best bound (tree_of b.tree.nodes) bytes → IsTextOfBook b bound bytes
text_of_book faithful_law accepted_law fit_law same_law less_law b bound bytes is search counted greatest (form, is_form, said) =
    let i = b.instance in
    let t = tree_of b.tree.nodes in
    let l = best_length b in
    let many = is.instance.many in
    let same = same_law i b.best form is.tour is_form.same in
    let as_long : l ≡ length_in i form = sym same.long in
    let fits = fit_law i.n i.fixed b.tree.nodes is.tree.is_table in
    let few = few_nodes b is search in
    let all : open_leaves t + settled t ≤ 1048576 = omega arith in
    let faithful = faithful_law i form l bound t is.instance same.is_tour is_form.canonical as_long greatest.below greatest.sound fits all in
    let covers : Covers i (tree_in i.n (written i.n form l bound t)) (level b) =
    sound_covers i (level b) (tree_in i.n (written i.n form l bound t)) many
    ((less_law i bound (level b) (tree_in i.n (written i.n form l bound t)) (greatest.greatest (level b) (omega arith) is.sound)).sound faithful.sound.sound) in
    record {
      value = written i.n form l bound t;
      is_text = said ∙ ap (λ (m : ℕ). text (written i.n form m bound t)) (sym as_long);
      tour = subst (IsCanonicalForm b.best) (sym (from_zero-from_one form)) is_form;
      form = faithful.form;
      sound = faithful.sound;
      long = refl;
      near = near_bound b bound is greatest;
      no_longer = is.no_longer;
      covers = covers;
      opened = faithful.opened;
      settled = faithful.settled ∙ is.counted;
      within = is.charged.within;
      accepted = λ none. accepted_law i l bound t (written i.n form l bound t) faithful none;
      bears = record { tree = t; alike = faithful.alike; greatest = greatest };
      grown = alike_grown (λ path br. IsNeededSplit i path b.start.length br b.gap) (root i) (tree_of b.start.nodes) t (tree_in i.n (written i.n form l bound t)) search.splits faithful.alike;
    }

-- ---- what came of a search

pub proved_of : AcceptedIsBelow → ClosedIsAccepted → SameCycleIsSameTour → CanonicalFormIsOne
    → (b : Book) (bound : ℕ) (bytes tour : List ℕ) → IsBook b → IsTextOfBook b bound bytes → open_leaves (tree_of b.tree.nodes) ≡ 0 → IsCanonicalForm b.best tour
    → IsProved b.instance b.budget b.gap (start_in b) tour (best_length b) bound bytes
proved_of below_law closed_law same_law one_law b bound bytes tour is w none is_tour =
    let i = b.instance in
    let p = w.value in
    let one : from_zero p.tour ≡ tour = one_law i b.best (from_zero p.tour) tour is.instance.many is.tour w.tour is_tour in
    let accepted = closed_law i p.long bound p w.sound (w.opened ∙ none) in
    let same = same_law i b.best tour is.tour is_tour.same in
    let within = w.within in
    let counted = w.settled in
    record {
      value = p;
      is_tour = same.is_tour;
      canonical = is_tour.canonical;
      long = sym same.long;
      no_longer = subst (λ (k : ℕ). k ≤ b.start.length) w.long w.no_longer;
      below = subst (λ (k : ℕ). bound ≤ k) w.long accepted.accepted.below;
      near = subst (λ (k : ℕ). k ≤ bound + b.gap) w.long w.near;
      no_shorter = λ other o. below_law i (from_zero p.tour) other p.long bound (tree_in i.n p) is.instance.many accepted.accepted o;
      accepted = subst (λ (x : List ℕ). IsAcceptedText i x (best_length b) bound) (sym w.is_text) (subst (λ (k : ℕ). IsAcceptedText i (text p) k bound) w.long (w.accepted none));
      written = subst (λ (k : ℕ). IsTextOf i bytes k bound p) w.long (record { text = w.is_text; form = w.form; accepted = accepted });
      same = one;
      bears = subst (λ (k : ℕ). Bears i k bound p) w.long w.bears;
      few = omega arith;
    }

pub body_of : (b : Book) (bound : ℕ) (bytes : List ℕ) (w : IsTextOfBook b bound bytes) → 0 < open_leaves (tree_of b.tree.nodes) → IsBodyOn b.instance b.budget b.gap (start_in b) w.value
body_of b bound bytes w some =
    let within = w.within in
    let counted = w.settled in
    record {
      form = w.form;
      bound = bound;
      sound = w.sound;
      near = w.near;
      no_longer = w.no_longer;
      covers = w.covers;
      some_open = subst (λ (k : ℕ). 0 < k) (sym w.opened) some;
      few = omega arith;
      grown = w.grown;
    }

pub stopped_of : (b : Book) (bound : ℕ) (bytes printed : List ℕ) → IsTextOfBook b bound bytes → 0 < open_leaves (tree_of b.tree.nodes) → b.settled ≡ b.budget
    → printed ≡ stopped_text (best_length b) (open_leaves (tree_of b.tree.nodes)) → IsBodyOf b.instance b.budget b.gap (start_in b) bytes printed
stopped_of b bound bytes printed w some spent prints = record {
  body = w.value;
  stopped = record { on_the_way = body_of b bound bytes w some; settled = w.settled ∙ ap (λ (k : ℕ). settled (tree_of b.start.nodes) + k) spent };
  is_text = w.is_text;
  prints = prints ∙ ap (λ (k : ℕ). stopped_text k (open_leaves (tree_of b.tree.nodes))) (sym w.long) ∙ ap (stopped_text w.value.long) (sym w.opened);
}
