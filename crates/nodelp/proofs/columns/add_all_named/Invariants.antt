use Rattle.std.proofs.Common.{◌≡◌}
use Rattle.nodelp.specs.Node.{IsCore}
use Rattle.nodelp.proofs.columns.add_all_named.Given as goal

abbrev pub invariant-loop-at : goal.invariant-loop-at
invariant-loop-at l = record {
  others : l.lp ≡ record l.fn.lp { cols = l.lp.cols };
  core : IsCore l.instance l.path.conditions l.lp.cols;
}
