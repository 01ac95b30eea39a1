use Rattle.std.proofs.Common.{◌≡◌, take}
use Rattle.branchx.specs.Cond.{conditions_of}
use Rattle.nodelp.specs.Core.{AreWanted}
use Rattle.nodelp.proofs.columns.add_wanted.Given as goal

abbrev pub invariant-loop-cond : goal.invariant-loop-cond
invariant-loop-cond l = record {
  others : l.lp ≡ record l.fn.lp { cols = l.lp.cols };
  wanted : AreWanted l.instance (conditions_of (take l.cond-index l.conditions)) l.lp.cols;
}
