use Rattle.std.proofs.Common.{ℕ, ◌<◌, slice_index_or}
use Rattle.tspdef.specs.Paths.{IsApartFrom}
use Rattle.branchx.specs.declared.cond.Cond.{Cond}
use Rattle.branchx.specs.Cond.{condition_of}
use Rattle.branchx.proofs.path.is_new.Given as goal

abbrev pub invariant-loop-cond : goal.invariant-loop-cond
invariant-loop-cond l = (k : ℕ) (d : Cond) → k < l.cond-index → IsApartFrom l.path.n l.set.cities (condition_of (slice_index_or l.cond-items k d))
