-- Below six cities no set to split by has three cities with three others.
use Rattle.std.proofs.Common.{◌<◌, ◌≤◌, List, [], ◌∷◌, inl, inr, arith}
use Rattle.tspdef.specs.Paths.{Condition}
use Rattle.cyc.specs.CitySet.{Members}
use Rattle.cyc.specs.Frac.{Values}
use Rattle.branchx.specs.Choice.{IsChoice, IsFirstFit}
use Rattle.branchx.specs.declared.branch.Branch.{Branch}
use Rattle.branchx.specs.declared.branch.Branch.TheVariants.{Edge, Clique}
use Rattle.treebook.specs.Tree.{branch_of}
use Rattle.worker.specs.Splits.{IsEdge}

fit_needs_six : (x : Values) (path : List Condition) (sets : List Members) (set : Members) → IsFirstFit x path sets set → 6 ≤ x.n
fit_needs_six x path [] set is = absurd is
fit_needs_six x path (s ∷ ss) set is = elim is [
  | inl here ↦ let some = here.0.some in let others = here.0.others in omega arith
  | inr later ↦ fit_needs_six x path ss set later.1
]

pub edge_below_six : (x : Values) (path : List Condition) (b : Branch) → IsChoice x path b → x.n < 6 → IsEdge (branch_of b)
edge_below_six x path (Edge u v) is few = tt
edge_below_six x path (Clique set) is few = absurd (let enough = fit_needs_six x path is.0 set is.1.1 in omega arith)
