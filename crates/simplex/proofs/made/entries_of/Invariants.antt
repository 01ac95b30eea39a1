use Rattle.std.proofs.Common.{◌≡◌, ◌≤◌, ◌^◌, map, take}
use Rattle.std.specs.List.{All}
use Rattle.simplex.specs.Columns.{blank, unvalued}
use Rattle.simplex.proofs.made.entries_of.Given as goal

abbrev pub invariant-loop-at : goal.invariant-loop-at
invariant-loop-at l = record {
  pairs : map unvalued l.entries.items ≡ map blank (take l.at l.cols);
  small : All (λ e. e.x ≤ 2 ^ 30) l.entries.items;
}
