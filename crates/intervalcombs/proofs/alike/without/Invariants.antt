use Rattle.std.proofs.Common.{vec_len}
use Rattle.std.specs.List.{All}
use Rattle.sepblos.specs.Violated.{IsWorth}
use Rattle.intervalcombs.proofs.alike.without.Given as goal

abbrev pub invariant-loop-cut : goal.invariant-loop-cut
invariant-loop-cut l = record {
  rest : All (IsWorth l._x) l.rest.items;
  kept : All (IsWorth l._x) l.kept.items;
}

abbrev pub decreases-loop-cut : goal.decreases-loop-cut
decreases-loop-cut l = vec_len l.rest
