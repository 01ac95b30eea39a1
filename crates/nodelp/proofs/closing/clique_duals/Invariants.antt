use Rattle.std.proofs.Common.{◌≡◌, ◌+◌, ◌≤◌, ◌++◌, drop}
use Rattle.branchx.specs.Cond.{conditions_of}
use Rattle.nodelp.specs.Duals.{clique_duals}
use Rattle.nodelp.proofs.closing.clique_duals.Given as goal

abbrev pub invariant-loop-cond : goal.invariant-loop-cond
invariant-loop-cond l = record {
  depth : l.depth ≤ l.cond-index + 1;
  row : l.row ≤ l.first + l.cond-index;
  so_far : l.duals.items ++ clique_duals l.ys l.depth l.row (conditions_of (drop l.cond-index l.conditions)) ≡ clique_duals l.ys 1 l.first (conditions_of l.conditions);
}
