use Rattle.std.proofs.Common.{◌≡◌, drop}
use Rattle.tspdef.specs.Paths.{is_decided}
use Rattle.branchx.specs.Cond.{conditions_of}
use Rattle.branchx.proofs.path.decided.Given as goal

abbrev pub invariant-loop-cond : goal.invariant-loop-cond
invariant-loop-cond l = is_decided (conditions_of (drop l.cond-index l.cond-items)) l.u l.v ≡ is_decided l.path.conditions l.u l.v
