-- The law of refusals above the machine: what is wrong with each value whose text is refused.
use Rattle.std.specs.Prelude.{◌≡◌, ◌≢◌, ℕ, ◌-◌, ◌^◌, ◌<◌, ◌≤◌, false, List, [], ◌∷◌, ◌++◌, length, Option, Some, None, ◌<ℤ◌}
use Rattle.std.specs.List.{AllByRecursion}
use Rattle.tspdef.specs.Sets.{IsProper}
use Rattle.tspdef.specs.Instances.{Instance, length_in}
use Rattle.tspdef.specs.Cuts.{IsCut}
use Rattle.tspdef.specs.Paths.{Condition, absent, present, two, four, is_decided, root}
use Rattle.tspdef.specs.Bounds.{bound, needed}
use Rattle.certdef.specs.Proofs.{Listed, Written, open_leaf, closed_leaf, edge_split, clique_split, Proof, text}
use Rattle.certdef.specs.Accepted.{from_zero, cuts_of, closing_of, HasForm, most_bytes}
use Rattle.certdef.specs.Verdicts.{no}
use Rattle.certdef.specs.Bytes.{verdict}
use Rattle.verdict.specs.Decided.{IsTourFromOne}
use Rattle.verdict.specs.Refusals.{first_lines, IsTold}

-- The tree has nothing that refusal k is told for: 5 a split by a set of all cities, 6 a split by a decided pair, a fixed one among
-- them, 7 a leaf whose bound is too weak for the bound of the value, 8 an open leaf.
abbrev pub IsRightTree : Instance → (k bound : ℕ) → List Listed → List Condition → Written → Type 0
IsRightTree i k b cs path open_leaf = k ≢ 8
IsRightTree i k b cs path (closed_leaf d) = k ≡ 7 → needed b <ℤ bound i path (closing_of i.n (cuts_of i.n cs) d)
IsRightTree i k b cs path (edge_split u v x y) =
    (k ≡ 6 → is_decided path (u - 1) (v - 1) ≡ false)
    × (IsRightTree i k b cs (path ++ absent (u - 1) (v - 1) ∷ []) x × IsRightTree i k b cs (path ++ present (u - 1) (v - 1) ∷ []) y)
IsRightTree i k b cs path (clique_split s x y) =
    (k ≡ 5 → IsProper i.n (from_zero s))
    × (IsRightTree i k b cs (path ++ two (from_zero s) ∷ []) x × IsRightTree i k b cs (path ++ four (from_zero s) ∷ []) y)

-- the bound of a value: the one that it tells, else its length
abbrev pub bound_of : ℕ → Option ℕ → ℕ
bound_of l None = l
bound_of l (Some b) = b

-- a bound that is told is below the length
abbrev pub IsBelow : ℕ → Option ℕ → Type 0
IsBelow l None = Unit {0}
IsBelow l (Some b) = b < l

-- The value has nothing that refusal k is told for: 2 another number of cities, 3 no canonical tour of the instance, 4 another length
-- than the tour's, 5 a cut that is none, 11 a bound that is told and is not below the length; or a fault of the tree. Nothing of a value
-- is refused as 1, 9 or 10.
pub record IsRight (i : Instance) (k : ℕ) (p : Proof) : Type 0 where
  pub size : k ≡ 2 → p.cities ≡ i.n
  pub tour : k ≡ 3 → IsTourFromOne i p.tour
  pub long : k ≡ 4 → length_in i (from_zero p.tour) ≡ p.long
  pub bound : k ≡ 11 → IsBelow p.long p.bound
  pub cuts : k ≡ 5 → AllByRecursion (IsCut i.n) (cuts_of i.n p.cuts)
  pub tree : IsRightTree i k (bound_of p.long p.bound) p.cuts (root i) p.tree

-- Where the text of a value of the grammar, of at most 2^60 bytes, is refused, the value has what the refusal is told for.
abbrev pub RefusedValuesAreWrong : Type 0
RefusedValuesAreWrong = (i : Instance) (p : Proof) (k at : ℕ) → i.n < 2 ^ 32 → HasForm i.n p → length (text p) ≤ most_bytes
    → verdict i (text p) ≡ no k at → ¬ IsRight i k p

-- So has each value of the grammar whose text begins with lines that are refused; with 1 there is no such value.
abbrev pub RefusedLinesAreWrong : Type 0
RefusedLinesAreWrong = (i : Instance) (bytes : List ℕ) (k at m : ℕ) → i.n < 2 ^ 32 → IsTold i bytes k at m
    → (p : Proof) (more : List ℕ) → HasForm i.n p → length (text p) ≤ most_bytes → text p ≡ first_lines m bytes ++ more → ¬ IsRight i k p
