use Rattle.std.proofs.Common.{◌≡◌, ◌<◌, ◌≤◌, true, length, drop}
use Rattle.lpcheck.specs.Added.{any_negative}
use Rattle.nodelp.specs.Duals.{newest_duals}
use Rattle.nodelp.specs.Node.{IsCore}
use Rattle.nodelp.proofs.columns.add_pairs.Given as goal

abbrev pub invariant-loop-at : goal.invariant-loop-at
invariant-loop-at l = record {
  others : l.lp ≡ record l.fn.lp { cols = l.lp.cols };
  core : IsCore l.instance l.path.conditions l.lp.cols;
  longer : length l.fn.lp.cols ≤ length l.lp.cols;
  start : l.at ≡ 0 → l.lp.cols ≡ l.fn.lp.cols;
  entered : 0 < l.at → any_negative l.fn.lp.rows (newest_duals l.fn.lp.last) (drop (length l.fn.lp.cols) l.lp.cols) ≡ true;
}
