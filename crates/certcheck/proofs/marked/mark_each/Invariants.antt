use Rattle.std.proofs.Common.{◌≡◌, ℕ, ◌<◌, take}
use Rattle.tspdef.specs.Paths.{is_decided}
use Rattle.branchx.specs.Cond.{conditions_of}
use Rattle.branchx.specs.Table.{tabled}
use Rattle.certcheck.proofs.marked.mark_each.Given as goal

abbrev pub invariant-loop-cond : goal.invariant-loop-cond
invariant-loop-cond l = (u v : ℕ) → u < v → v < l.n → tabled l.n l.table u v ≡ is_decided (conditions_of (take l.cond-index l.conditions)) u v
