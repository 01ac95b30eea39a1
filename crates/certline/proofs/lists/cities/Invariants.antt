use Rattle.std.proofs.Common.{◌≤◌, ◌+◌, length}
use Rattle.certline.proofs.Runs.{CitiesRead}
use Rattle.certline.proofs.lists.cities.Given as goal

abbrev pub invariant-loop-rest : goal.invariant-loop-rest
invariant-loop-rest l = record { read : CitiesRead l.n l.tail l.rest l.cities.items l.least; few : l.least ≤ l.n + 1 }

abbrev pub decreases-loop-rest : goal.decreases-loop-rest
decreases-loop-rest l = length l.rest
