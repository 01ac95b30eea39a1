use Rattle.std.proofs.Common.{◌≡◌}
use Rattle.nodelp.specs.Node.{IsCore}
use Rattle.nodelp.proofs.columns.add_all_near.Given as goal

abbrev pub invariant-loop-u : goal.invariant-loop-u
invariant-loop-u l = record {
  others : l.lp ≡ record l.fn.lp { cols = l.lp.cols };
  core : IsCore l.instance l.path.conditions l.lp.cols;
}
