use Rattle.std.proofs.Common.{◌≡◌}
use Rattle.nodelp.specs.Node.{IsCore}
use Rattle.nodelp.proofs.columns.add_near_to.Given as goal

abbrev pub invariant-loop-j : goal.invariant-loop-j
invariant-loop-j l = record {
  others : l.lp ≡ record l.fn.lp { cols = l.lp.cols };
  core : IsCore l.instance l.path.conditions l.lp.cols;
}
