use Rattle.std.specs.List.{All}
use Rattle.sepsub.specs.Growth.{IsLight}
use Rattle.sepsub.proofs.components.others.Given as goal

abbrev pub invariant-loop-city : goal.invariant-loop-city
invariant-loop-city l = All (IsLight l.network) l.sets.items
