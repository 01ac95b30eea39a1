use Rattle.std.proofs.Common.{◌≡◌, map, take}
use Rattle.pathtour.specs.Neighbours.{two_of}
use Rattle.pathtour.proofs.neighbours.twos_of.Given as goal

abbrev pub invariant-loop-at : goal.invariant-loop-at
invariant-loop-at l = take l.at-index l.joined ≡ map two_of l.pairs.items
