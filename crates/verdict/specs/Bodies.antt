-- Restart bodies: which bytes a search resumes from, the verdict on them, and the tree that they say. Equal cuts of a leaf are one there.
use Rattle.std.specs.Prelude.{◌≡◌, ℕ, ◌+◌, ◌^◌, ◌<◌, ◌≤◌, ◌↔◌, Bool, true, cond, ◌&&◌, nat_le, List, [], ◌∷◌, ◌++◌, length, ℤ}
use Rattle.std.specs.declared.cmp.Ordering.{Ordering}
use Rattle.std.specs.declared.cmp.Ordering.TheVariants.{Less, Equal, Greater}
use Rattle.std.specs.Int.Signed.{lt_z}
use Rattle.tspdef.specs.Instances.{Instance, IsTourOf, length_in}
use Rattle.tspdef.specs.Tours.{IsCanonical}
use Rattle.tspdef.specs.Cuts.{Cut, cut_cmp}
use Rattle.tspdef.specs.Paths.{Condition, absent, present, two, four, root}
use Rattle.tspdef.specs.Closings.{Closing}
use Rattle.tspdef.specs.Bounds.{bound, needed}
use Rattle.tspdef.specs.Trees.{Tree, open_leaf, closed_leaf, edge_split, clique_split, IsSoundFor}
use Rattle.certdef.specs.Proofs.{Listed, Duals, Proof, text}
use Rattle.certdef.specs.Accepted.{from_zero, cuts_of, closing_of, tree_in, HasForm, IsAbout, most_bytes}
use Rattle.certdef.specs.Tests.{Tests, verifier}
use Rattle.certdef.specs.Verdicts.{Verdict, yes}
use Rattle.certdef.specs.Bytes.{reads, start, bytes_on, verdict_at_end}

-- ---- equal cuts are one

-- The cut q with its dual beside r and what is behind r, where q compares so with r: before r; as one with r, their duals added; or
-- behind r, where `more` is what is behind r then.
abbrev pub place : Ordering → (Cut × ℕ) → (Cut × ℕ) → List (Cut × ℕ) → List (Cut × ℕ) → List (Cut × ℕ)
place Less q r rs more = q ∷ r ∷ rs
place Equal q r rs more = (r.0, r.1 + q.1) ∷ rs
place Greater q r rs more = r ∷ more

-- one more cut with its dual, among cuts in their order
abbrev pub placed : (Cut × ℕ) → List (Cut × ℕ) → List (Cut × ℕ)
placed q [] = q ∷ []
placed q (r ∷ rs) = place (cut_cmp q.0 r.0) q r rs (placed q rs)

-- more cuts with their duals, one after the other
abbrev pub placed_each : List (Cut × ℕ) → List (Cut × ℕ) → List (Cut × ℕ)
placed_each ms [] = ms
placed_each ms (q ∷ qs) = placed_each (placed q ms) qs

-- the cuts in their order, equal ones as one, with their duals added
abbrev pub merged_cuts : List (Cut × ℕ) → List (Cut × ℕ)
merged_cuts qs = placed_each [] qs

abbrev pub merged_closing : Closing → Closing
merged_closing c = record { city = c.city; cuts = merged_cuts c.cuts; conds = c.conds }

-- the tree with equal cuts of each closed leaf as one
abbrev pub merged : Tree → Tree
merged open_leaf = open_leaf
merged (closed_leaf c) = closed_leaf (merged_closing c)
merged (edge_split u v a b) = edge_split u v (merged a) (merged b)
merged (clique_split s a b) = clique_split s (merged a) (merged b)

-- ---- which bytes are a restart body

-- The value is about the instance, the length and the bound, its tour is canonical and of that length, and its tree is sound for the
-- bound, where equal cuts of a leaf are one: so their duals add up to 2^62 at most.
pub record IsBodyProof (i : Instance) (l b : ℕ) (p : Proof) : Type 0 where
  pub about : IsAbout i l b p
  pub is_tour : IsTourOf i (from_zero p.tour)
  pub canonical : IsCanonical (from_zero p.tour)
  pub long : l ≡ length_in i (from_zero p.tour)
  pub sound : IsSoundFor i b (merged (tree_in i.n p))

-- the bytes are the text of a value of the grammar that is a restart body
pub record IsBodyOf (i : Instance) (bytes : List ℕ) (l b : ℕ) (p : Proof) : Type 0 where
  pub text : bytes ≡ text p
  pub form : HasForm i.n p
  pub body : IsBodyProof i l b p

abbrev pub IsBodyText : Instance → List ℕ → ℕ → ℕ → Type 0
IsBodyText i bytes l b = (length bytes ≤ most_bytes) × (p : Proof) × IsBodyOf i bytes l b p

-- ---- the verdict on them

-- each dual is 2^62 at most
abbrev pub sums_fit : List (Cut × ℕ) → Bool
sums_fit [] = true
sums_fit (q ∷ qs) = nat_le q.1 (2 ^ 62) && sums_fit qs

-- a closing closes a leaf with this path for a bound
abbrev pub suffices : Instance → ℕ → List Condition → Closing → Bool
suffices i b path c = sums_fit c.cuts && lt_z (needed b) (bound i path c)

-- the duals close the leaf, equal cuts as one
abbrev pub closes_merged : Instance → ℕ → List Listed → List Condition → Duals → Bool
closes_merged i b cs path d = suffices i b path (merged_closing (closing_of i.n (cuts_of i.n cs) d))

-- a resumer's tests: a verifier's, but that a leaf may be open, and that equal cuts are one
abbrev pub resumer : Instance → Tests
resumer i = record (verifier i) { closes = closes_merged i; opens = true }

-- the verdict on the bytes of a restart body
abbrev pub body_verdict : Instance → List ℕ → Verdict
body_verdict i bytes = verdict_at_end (bytes_on (resumer i) (reads start) bytes)

-- ---- the tree that a search goes on from

-- the tree with each closed leaf open whose bound does not exceed the number
abbrev pub reopened : Instance → ℤ → List Condition → Tree → Tree
reopened i number path open_leaf = open_leaf
reopened i number path (closed_leaf c) = cond (lt_z number (bound i path c)) (closed_leaf c) open_leaf
reopened i number path (edge_split u v a b) = edge_split u v (reopened i number (path ++ absent u v ∷ []) a) (reopened i number (path ++ present u v ∷ []) b)
reopened i number path (clique_split s a b) = clique_split s (reopened i number (path ++ two s ∷ []) a) (reopened i number (path ++ four s ∷ []) b)

-- a tree from its root on, with each leaf open that is too weak for the level m
abbrev pub reopened_for : Instance → ℕ → Tree → Tree
reopened_for i m t = reopened i (needed m) (root i) t

-- the tree of a body for the level m
abbrev pub resumed : Instance → ℕ → Proof → Tree
resumed i m p = reopened_for i m (merged (tree_in i.n p))

-- ---- the laws

-- The verdict is yes with a length and a bound exactly on the texts of values that are restart bodies with them.
abbrev pub YesIsBodyText : Type 0
YesIsBodyText = (i : Instance) (bytes : List ℕ) (l b : ℕ) → i.n < 2 ^ 32 → (body_verdict i bytes ≡ yes l b) ↔ IsBodyText i bytes l b

-- The tree that a search goes on from is sound for its level.
abbrev pub ResumedIsSound : Type 0
ResumedIsSound = (i : Instance) (l b m : ℕ) (p : Proof) → IsBodyProof i l b p → IsSoundFor i m (resumed i m p)
