-- What work on a node gives.
use Rattle.std.specs.Prelude.{◌≡◌, ℕ, suc, ◌+◌, ◌-◌, ◌*◌, ◌^◌, ◌≤◌, List, [], ◌∷◌, ◌++◌, length, ◌<ℤ◌, min, Option, Some, None, IfSome}
use Rattle.tspdef.specs.Instances.{Instance, IsTourOf, length_in}
use Rattle.tspdef.specs.Paths.{Condition, fixed, absent, present, two, four, IsPath, root}
use Rattle.tspdef.specs.Closings.{Closing, Fits}
use Rattle.tspdef.specs.Bounds.{bound, needed}
use Rattle.branchx.specs.Branch.{IsSplit}
use Rattle.treebook.specs.Tree.{branch_of}
use Rattle.pricer.specs.declared.closing.Report.{Report}
use Rattle.pricer.specs.declared.closing.Report.TheVariants.{Closed, Split}
use Rattle.worker.specs.Splits.{Splits, level}
use Rattle.worker.specs.declared.work.Work.{Work}

-- a path begins with the fixed pairs of its instance
abbrev pub BeginsAt : Instance → List Condition → Type 0
BeginsAt i path = (rest : List Condition) × (path ≡ root i ++ rest)

-- how many conditions on sets a path has
abbrev pub cliques : List Condition → ℕ
cliques [] = 0
cliques (fixed u v ∷ path) = cliques path
cliques (absent u v ∷ path) = cliques path
cliques (present u v ∷ path) = cliques path
cliques (two s ∷ path) = suc (cliques path)
cliques (four s ∷ path) = suc (cliques path)

-- A path decides no pair twice, so beside its conditions on sets it has at most one for each of the n (n - 1) / 2 pairs.
pub record PathsAreShort : Type 0 where
  pub pairs : (n : ℕ) (path : List Condition) → IsPath n path → 2 * length path ≤ 2 * cliques path + n * (n - 1)
  pub few : (n : ℕ) (path : List Condition) → n ≤ 2000 → IsPath n path → cliques path ≤ 2 ^ 21 → length path ≤ 2 ^ 22

-- the lesser of the best length and that of a tour, if there is one
abbrev pub best_after : Instance → ℕ → Option (List ℕ) → ℕ
best_after i best None = best
best_after i best (Some tour) = min best (length_in i tour)

-- the closing fits the node, and its bound exceeds what tours of length l need
pub record Closes (i : Instance) (path : List Condition) (l : ℕ) (c : Closing) : Type 0 where
  pub fits : Fits i.n path c
  pub exceeds : needed l <ℤ (bound i path c)

-- a closing that closes the node for tours of the length, or an undecided pair or a new proper set
abbrev pub IsReport : Instance → List Condition → ℕ → Report → Type 0
IsReport i path l (Closed c) = Closes i path l c
IsReport i path l (Split b) = IsSplit i.n path b

-- a split is one that may be where tours of length l are known, and for a gap
abbrev pub SplitsOnly : Splits → Instance → List Condition → ℕ → Report → ℕ → Type 0
SplitsOnly S i path l (Closed c) gap = Unit {0}
SplitsOnly S i path l (Split b) gap = S i path l (branch_of b) gap

-- the report splits the node
abbrev pub IsSplitting : Report → Type 0
IsSplitting (Closed c) = ⊥
IsSplitting (Split b) = Unit {0}

-- A tour of the instance, if one was found, and a report that is taken while the node is open, once the tour is offered: a closing
-- is one for the level of the lesser length, and a gap.
pub record IsWork (i : Instance) (path : List Condition) (best gap : ℕ) (w : Work) : Type 0 where
  pub is_tour : IfSome w.tour (IsTourOf i)
  pub report : IsReport i path (level (best_after i best w.tour) gap) w.report
