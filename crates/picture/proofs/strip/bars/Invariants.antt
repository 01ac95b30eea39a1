use Rattle.std.specs.List.{AllByRecursion}
use Rattle.picture.specs.Canvas.{IsInStrip}
use Rattle.picture.proofs.strip.bars.Given as goal

abbrev pub invariant-loop-depth : goal.invariant-loop-depth
invariant-loop-depth l = AllByRecursion IsInStrip l.bars.items
