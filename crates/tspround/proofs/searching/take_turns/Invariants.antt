use Rattle.tspround.specs.Alone.{IsSoFar}
use Rattle.tspround.proofs.searching.take_turns.Given as goal

abbrev pub invariant-loop : goal.invariant-loop
invariant-loop g l = IsSoFar g.W.Worker.splits l.counter l.initial.boss l.boss
