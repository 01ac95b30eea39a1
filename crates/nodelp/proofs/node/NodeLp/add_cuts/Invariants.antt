use Rattle.std.proofs.Common.{◌-◌, ◌≤◌, length}
use Rattle.std.specs.List.{All}
use Rattle.tspdef.specs.Cuts.{IsCut}
use Rattle.nodelp.specs.Node.{IsMissed}
use Rattle.nodelp.specs.Adding.{AreAdded}
use Rattle.nodelp.proofs.node.NodeLp.add_cuts.Given as goal

abbrev pub invariant-loop-cut : goal.invariant-loop-cut
invariant-loop-cut l = record {
  fewer : length l.rest.items ≤ length l.fn.cuts.items;
  added : AreAdded (length l.fn.cuts.items - length l.rest.items) l.fn.self l.self;
  cuts : All (IsCut l.fn.self.program.n) l.rest.items;
  missed : All (IsMissed l.fn.self.program) l.rest.items;
}

abbrev pub decreases-loop-cut : goal.decreases-loop-cut
decreases-loop-cut l = length l.rest.items
