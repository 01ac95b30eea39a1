use Rattle.std.specs.List.{All}
use Rattle.sepblos.specs.Violated.{IsWorth}
use Rattle.intervalcombs.proofs.handles.combs_of.Given as goal

abbrev pub invariant-loop-city : goal.invariant-loop-city
invariant-loop-city l = All (IsWorth l.x) l.cuts.items
