use Rattle.std.proofs.Common.{◌≤◌}
use Rattle.std.specs.List.{AllByRecursion}
use Rattle.picture.specs.Canvas.{IsInStrip}
use Rattle.picture.proofs.strip.put_level.Given as goal

abbrev pub invariant-loop-node : goal.invariant-loop-node
invariant-loop-node l = record {
  high : l.high ≤ 120;
  inside : AllByRecursion IsInStrip l.initial.bars.items → AllByRecursion IsInStrip l.bars.items;
}
