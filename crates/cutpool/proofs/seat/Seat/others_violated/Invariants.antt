use Rattle.std.proofs.Common.{◌≡◌, [], ◌∷◌}
use Rattle.std.specs.List.{All}
use Rattle.cutpool.specs.Pool.{IsWorthAdding}
use Rattle.cutpool.proofs.seat.Seat.others_violated.Given as goal

abbrev pub invariant-loop-cut : goal.invariant-loop-cut
invariant-loop-cut g l = record {
  tag : l.cut-iterator.vec.now.tag ≡ l.self.n ∷ [];
  worth : All (IsWorthAdding l.x) l.found.items;
}
