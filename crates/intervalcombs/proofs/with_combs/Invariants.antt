use Rattle.std.specs.List.{All}
use Rattle.sepblos.specs.Violated.{IsWorth}
use Rattle.intervalcombs.proofs.with_combs.Given as goal

abbrev pub invariant-loop-handle : goal.invariant-loop-handle
invariant-loop-handle l = All (IsWorth l.x) l.cuts.items
