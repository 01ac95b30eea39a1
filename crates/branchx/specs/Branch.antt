-- By what a node may be split.
use Rattle.std.specs.Prelude.{◌≡◌, ℕ, false, List}
use Rattle.tspdef.specs.Sets.{IsProper}
use Rattle.tspdef.specs.Paths.{Condition, IsPair, is_decided, IsNew}
use Rattle.branchx.specs.declared.branch.Branch.{Branch}
use Rattle.branchx.specs.declared.branch.Branch.TheVariants.{Edge, Clique}

-- an undecided pair, or a proper set that is new
abbrev pub IsSplit : ℕ → List Condition → Branch → Type 0
IsSplit n path (Edge u v) = IsPair n u v × (is_decided path u v ≡ false)
IsSplit n path (Clique set) = IsProper n set.cities × IsNew n path set.cities
