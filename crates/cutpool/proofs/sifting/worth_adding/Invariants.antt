use Rattle.std.proofs.Common.{◌≡◌}
use Rattle.std.specs.List.{All, filter}
use Rattle.cutpool.specs.Pool.{is_worth, IsWorthAdding}
use Rattle.cutpool.proofs.sifting.worth_adding.Given as goal

abbrev pub invariant-loop-cut : goal.invariant-loop-cut
invariant-loop-cut l = record {
  found : l.found.items ≡ filter (is_worth l.x) l.yielded;
  worth : All (IsWorthAdding l.x) l.found.items;
}
