use Rattle.std.proofs.Common.{◌≡◌, take, filter}
use Rattle.cutpool.specs.Pool.{misses}
use Rattle.cutpool.proofs.seat.Seat.own_violated.Given as goal

abbrev pub invariant-loop-place : goal.invariant-loop-place
invariant-loop-place g l = l.found.items ≡ filter (misses l.x) (take l.place l.self.cuts)
