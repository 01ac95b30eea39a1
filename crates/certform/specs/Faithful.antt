-- What is written says what the tree says.
use Rattle.std.specs.Prelude.{◌≡◌, ℕ, ◌+◌, ◌≤◌, false, cond, List, [], ◌∷◌, ◌++◌, length}
use Rattle.tspdef.specs.Sets.{IsProper}
use Rattle.tspdef.specs.Cuts.{Cut}
use Rattle.tspdef.specs.Tours.{IsCanonical}
use Rattle.tspdef.specs.Instances.{Instance, IsInstance, IsTourOf, length_in}
use Rattle.tspdef.specs.Paths.{Condition, absent, present, two, four, is_decided, IsPair, fixed_conditions, root}
use Rattle.tspdef.specs.Closings.{Fits}
use Rattle.tspdef.specs.Trees.{Tree, open_leaf, closed_leaf, edge_split, clique_split, IsSoundFor, open_leaves, settled}
use Rattle.certdef.specs.Proofs.{Proof, text}
use Rattle.certdef.specs.Accepted.{HasForm, IsAcceptedText, tree_in, most_bytes}
use Rattle.certdef.specs.Restarts.{IsSoundProof}
use Rattle.treebook.specs.Tables.{Node, IsTable, tree_of}
use Rattle.certform.specs.Written.{is_same_cut, written}

-- Each closed leaf has a closing that fits there, each edge split an undecided pair, each clique split a proper set.
abbrev pub IsFitting : ℕ → List Condition → Tree → Type 0
IsFitting n path open_leaf = Unit {0}
IsFitting n path (closed_leaf c) = Fits n path c
IsFitting n path (edge_split u v a b) = (IsPair n u v × (is_decided path u v ≡ false)) × (IsFitting n (path ++ absent u v ∷ []) a × IsFitting n (path ++ present u v ∷ []) b)
IsFitting n path (clique_split s a b) = IsProper n s × (IsFitting n (path ++ two s ∷ []) a × IsFitting n (path ++ four s ∷ []) b)

-- the dual of a cut in a list, equal cuts added up
abbrev pub dual_of_cut : Cut → List (Cut × ℕ) → ℕ
dual_of_cut c [] = 0
dual_of_cut c (q ∷ qs) = dual_of_cut c qs + cond (is_same_cut c q.0) q.1 0

-- each cut has the same dual in both lists, equal cuts added up; so where duals are at least 1 they name the same cuts
abbrev pub HaveSameDuals : List (Cut × ℕ) → List (Cut × ℕ) → Type 0
HaveSameDuals ps qs = (c : Cut) → dual_of_cut c qs ≡ dual_of_cut c ps

-- two trees are the same but for the order of the cuts in their leaves
abbrev pub AreAlike : Tree → Tree → Type 0
AreAlike open_leaf open_leaf = Unit {0}
AreAlike (closed_leaf c) (closed_leaf d) = (d.city ≡ c.city) × HaveSameDuals c.cuts d.cuts × (d.conds ≡ c.conds)
AreAlike (edge_split u v a b) (edge_split x y c d) = ((x ≡ u) × (y ≡ v)) × (AreAlike a c × AreAlike b d)
AreAlike (clique_split s a b) (clique_split r c d) = (r ≡ s) × (AreAlike a c × AreAlike b d)
AreAlike _ _ = ⊥

pub record IsFaithful (i : Instance) (l b : ℕ) (t : Tree) (p : Proof) : Type 0 where
  pub form : HasForm i.n p
  pub sound : IsSoundProof i l b p
  pub alike : AreAlike t (tree_in i.n p)
  pub opened : open_leaves (tree_in i.n p) ≡ open_leaves t
  pub settled : settled (tree_in i.n p) ≡ settled t
  pub size : length (text p) ≤ most_bytes

-- What is written for a canonical tour of an instance, its length, a bound no greater and a tree of at most 2^20 nodes that is sound
-- for the bound and begins with the instance's fixed pairs, is of the grammar, sound and has the same tree, but for the order of the
-- cuts in a leaf; so it is accepted where no leaf is open.
abbrev pub WrittenIsFaithful : Type 0
WrittenIsFaithful = (i : Instance) (tour : List ℕ) (l b : ℕ) (t : Tree) → IsInstance i → IsTourOf i tour → IsCanonical tour
    → l ≡ length_in i tour → b ≤ l → IsSoundFor i b t → IsFitting i.n (root i) t → open_leaves t + settled t ≤ 1048576
    → IsFaithful i l b t (written i.n tour l b t)

-- A table's tree is fitting, from the path of its fixed pairs on.
abbrev pub TablesFit : Type 0
TablesFit = (n : ℕ) (fixed : List (ℕ × ℕ)) (nodes : List Node) → IsTable n fixed nodes → IsFitting n (fixed_conditions fixed) (tree_of nodes)

-- What is faithful to a tree without an open leaf is the value of an accepted text.
abbrev pub FaithfulIsAccepted : Type 0
FaithfulIsAccepted = (i : Instance) (l b : ℕ) (t : Tree) (p : Proof) → IsFaithful i l b t p → open_leaves t ≡ 0 → IsAcceptedText i (text p) l b
