use Rattle.std.proofs.Common.{◌≡◌, ◌-◌, ◌++◌}
use Rattle.tspgen.specs.Points.{points}
use Rattle.tspgen.proofs.points.Given as goal

abbrev pub invariant-loop : goal.invariant-loop
invariant-loop l = l.points.items ++ points (l.n - l.counter) l.random ≡ points l.n l.fn.random
