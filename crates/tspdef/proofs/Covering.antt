use Rattle.std.proofs.Common.{◌≡◌, ℕ, ◌%◌, ◌≤◌, List, [], ◌∷◌, ◌++◌, sym, subst, arith, ◌⊎◌, inl, inr, ⊎_elim, Some}
use Rattle.std.specs.Prelude.{◌<ℤ◌}
use Rattle.std.proofs.lemmas.Int.{ints}
use Rattle.std.proofs.lemmas.Bool.{cases_lt, cases_Bool}
use Rattle.tspdef.specs.Sets.{has, IsProper}
use Rattle.tspdef.specs.Tours.{steps, has_step, crossings}
use Rattle.tspdef.specs.Fixed.{AreSteps}
use Rattle.tspdef.specs.Instances.{Instance, IsTourOf, length_in}
use Rattle.tspdef.specs.Paths.{Condition, absent, present, two, four, Meets, Obeys, fixed_conditions, root}
use Rattle.tspdef.specs.Closings.{Closing, IsClosing}
use Rattle.tspdef.specs.Bounds.{bound, needed}
use Rattle.tspdef.specs.Trees.{Tree, open_leaf, closed_leaf, edge_split, clique_split, IsSound, open_leaves, ObeysAnOpenLeaf, Covers, Side, first, second, open_path, with_leaf}
use Rattle.tspdef.specs.Laws.{AcceptedIsBelow, RootCovers, EdgeSplitCovers, CliqueSplitCovers, ClosingCovers, CoveredIsLeast}
use Rattle.tspdef.proofs.CrossingLemmas.{subtour_law}
use Rattle.tspdef.proofs.Duality.{bound_below}

obeys_more : (es : List (ℕ × ℕ)) (path : List Condition) (c : Condition) → Obeys es path → Meets es c → Obeys es (path ++ c ∷ [])
obeys_more es [] c o m = (m, tt)
obeys_more es (p ∷ ps) c o m = (o.0, obeys_more es ps c o.1 m)

two_or_four : (m : ℕ) → m % 2 ≡ 0 → 2 ≤ m → (m ≡ 2) ⊎ (4 ≤ m)
two_or_four m e l = ⊎_elim (λ s. inl (omega arith)) (λ g. inr g) (cases_lt m 4)

-- a tour that obeys a path obeys one of the two paths that an edge makes of it
edge_sides : (tour : List ℕ) (path : List Condition) (u v : ℕ) → Obeys (steps tour) path
    → Obeys (steps tour) (path ++ absent u v ∷ []) ⊎ Obeys (steps tour) (path ++ present u v ∷ [])
edge_sides tour path u v o = ⊎_elim
    (λ e. inr (obeys_more (steps tour) path (present u v) o e))
    (λ e. inl (obeys_more (steps tour) path (absent u v) o e))
    (cases_Bool (has_step (steps tour) u v))

-- and one of the two that a proper set makes of it
clique_sides : (i : Instance) (tour : List ℕ) (path : List Condition) (s : List ℕ) → IsTourOf i tour → IsProper i.n s → Obeys (steps tour) path
    → Obeys (steps tour) (path ++ two s ∷ []) ⊎ Obeys (steps tour) (path ++ four s ∷ [])
clique_sides i tour path s t p o =
    let law = subtour_law i.n tour s t.is_tour p in ⊎_elim
    (λ e. inl (obeys_more (steps tour) path (two s) o e))
    (λ e. inr (obeys_more (steps tour) path (four s) o e))
    (two_or_four (crossings (has s) (steps tour)) law.0 law.1)

longer : (i : Instance) (path : List Condition) (c : Closing) (tour : List ℕ) (l : ℕ) → 3 ≤ i.n → IsTourOf i tour → IsClosing i.n path c
    → needed l <ℤ (bound i path c) → Obeys (steps tour) path → l ≤ length_in i tour
longer i path c tour l h t k q o = let b = bound_below i path c tour h t k.cuts o in omega (arith, ints)

-- a tour that obeys the path of a sound tree obeys an open leaf of it, or has length l at least
pub sound_below : (i : Instance) (l : ℕ) (path : List Condition) (t : Tree) (tour : List ℕ) → 3 ≤ i.n → IsTourOf i tour
    → IsSound i (needed l) path t → Obeys (steps tour) path → ObeysAnOpenLeaf (steps tour) path t ⊎ (l ≤ length_in i tour)
sound_below i l path open_leaf tour h is sound o = inl o
sound_below i l path (closed_leaf c) tour h is sound o = inr (longer i path c tour l h is sound.0 sound.1 o)
sound_below i l path (edge_split u v a b) tour h is sound o = ⊎_elim
    (λ e. ⊎_elim (λ x. inl (inl x)) (λ x. inr x) (sound_below i l (path ++ absent u v ∷ []) a tour h is sound.1.0 e))
    (λ e. ⊎_elim (λ x. inl (inr x)) (λ x. inr x) (sound_below i l (path ++ present u v ∷ []) b tour h is sound.1.1 e))
    (edge_sides tour path u v o)
sound_below i l path (clique_split s a b) tour h is sound o = ⊎_elim
    (λ e. ⊎_elim (λ x. inl (inl x)) (λ x. inr x) (sound_below i l (path ++ two s ∷ []) a tour h is sound.1.0 e))
    (λ e. ⊎_elim (λ x. inl (inr x)) (λ x. inr x) (sound_below i l (path ++ four s ∷ []) b tour h is sound.1.1 e))
    (clique_sides i tour path s is sound.0 o)

-- where no leaf is open none is obeyed
none_obeyed : (es : List (ℕ × ℕ)) (path : List Condition) (t : Tree) → open_leaves t ≡ 0 → ObeysAnOpenLeaf es path t → ⊥
none_obeyed es path open_leaf z o = absurd (omega arith)
none_obeyed es path (closed_leaf c) z o = o
none_obeyed es path (edge_split u v a b) z o = ⊎_elim
    (λ x. none_obeyed es (path ++ absent u v ∷ []) a (omega arith) x)
    (λ x. none_obeyed es (path ++ present u v ∷ []) b (omega arith) x) o
none_obeyed es path (clique_split s a b) z o = ⊎_elim
    (λ x. none_obeyed es (path ++ two s ∷ []) a (omega arith) x)
    (λ x. none_obeyed es (path ++ four s ∷ []) b (omega arith) x) o

fixed_obeyed : (es : List (ℕ × ℕ)) (pairs : List (ℕ × ℕ)) → AreSteps es pairs → Obeys es (fixed_conditions pairs)
fixed_obeyed es [] h = tt
fixed_obeyed es (p ∷ ps) h = (h.0, fixed_obeyed es ps h.1)

-- a tour of the instance obeys the path of the root
pub root_obeyed : (i : Instance) (tour : List ℕ) → IsTourOf i tour → Obeys (steps tour) (root i)
root_obeyed i tour is = fixed_obeyed (steps tour) i.fixed is.holds_fixed

pub covered_is_least : CoveredIsLeast
covered_is_least i t l z covers tour is = ⊎_elim (λ x. absurd (none_obeyed (steps tour) (root i) t z x)) (λ x. x) (covers tour is)

pub accepted_is_below : AcceptedIsBelow
accepted_is_below i tour other l b t h acc is = ⊎_elim
    (λ x. absurd (none_obeyed (steps other) (root i) t acc.none_open x)) (λ x. x)
    (sound_below i b (root i) t other h is acc.sound (root_obeyed i other is))

pub root_covers : RootCovers
root_covers i l tour is = inl (root_obeyed i tour is)

-- A tour that obeys an open leaf obeys one after a change at a place, where the change covers what obeys the leaf there.
changed : (es : List (ℕ × ℕ)) (path : List Condition) (t : Tree) (sides : List Side) (leaf : List Condition) (new : Tree) (long : Type 0)
    → open_path path t sides ≡ Some leaf → (Obeys es leaf → ObeysAnOpenLeaf es leaf new ⊎ long)
    → ObeysAnOpenLeaf es path t → ObeysAnOpenLeaf es path (with_leaf t sides new) ⊎ long
changed es path open_leaf [] leaf new long e k o = let same : path ≡ leaf = cc in subst (λ (p : List Condition). ObeysAnOpenLeaf es p new ⊎ long) (sym same) (k (subst (Obeys es) same o))
changed es path open_leaf (s ∷ ss) leaf new long e k o = cc
changed es path (closed_leaf c) sides leaf new long e k o = cc
changed es path (edge_split u v a b) [] leaf new long e k o = cc
changed es path (edge_split u v a b) (first ∷ sides) leaf new long e k o = ⊎_elim
    (λ x. ⊎_elim (λ y. inl (inl y)) (λ y. inr y) (changed es (path ++ absent u v ∷ []) a sides leaf new long e k x))
    (λ x. inl (inr x)) o
changed es path (edge_split u v a b) (second ∷ sides) leaf new long e k o = ⊎_elim
    (λ x. inl (inl x))
    (λ x. ⊎_elim (λ y. inl (inr y)) (λ y. inr y) (changed es (path ++ present u v ∷ []) b sides leaf new long e k x)) o
changed es path (clique_split s a b) [] leaf new long e k o = cc
changed es path (clique_split s a b) (first ∷ sides) leaf new long e k o = ⊎_elim
    (λ x. ⊎_elim (λ y. inl (inl y)) (λ y. inr y) (changed es (path ++ two s ∷ []) a sides leaf new long e k x))
    (λ x. inl (inr x)) o
changed es path (clique_split s a b) (second ∷ sides) leaf new long e k o = ⊎_elim
    (λ x. inl (inl x))
    (λ x. ⊎_elim (λ y. inl (inr y)) (λ y. inr y) (changed es (path ++ four s ∷ []) b sides leaf new long e k x)) o

-- a change at a place keeps what a tree covers, where it covers each tour that obeys the leaf there
keeps : (i : Instance) (t : Tree) (sides : List Side) (leaf : List Condition) (new : Tree) (l : ℕ)
    → open_path (root i) t sides ≡ Some leaf
    → ((tour : List ℕ) → IsTourOf i tour → Obeys (steps tour) leaf → ObeysAnOpenLeaf (steps tour) leaf new ⊎ (l ≤ length_in i tour))
    → Covers i t l → Covers i (with_leaf t sides new) l
keeps i t sides leaf new l e k covers tour is = ⊎_elim
    (λ o. changed (steps tour) (root i) t sides leaf new (l ≤ length_in i tour) e (k tour is) o)
    (λ x. inr x)
    (covers tour is)

pub edge_split_covers : EdgeSplitCovers
edge_split_covers i t sides path u v l e pair free covers =
    keeps i t sides path (edge_split u v open_leaf open_leaf) l e (λ tour is o. inl (edge_sides tour path u v o)) covers

pub clique_split_covers : CliqueSplitCovers
clique_split_covers i t sides path s l e proper covers =
    keeps i t sides path (clique_split s open_leaf open_leaf) l e (λ tour is o. inl (clique_sides i tour path s is proper o)) covers

pub closing_covers : ClosingCovers
closing_covers i t sides path c l h e k q covers =
    keeps i t sides path (closed_leaf c) l e (λ tour is o. inr (longer i path c tour l h is k q o)) covers
