use Rattle.std.specs.List.{All}
use Rattle.tspplain.specs.Crossings.{IsMissedComb}
use Rattle.tspplain.proofs.separation.combs.Given as goal

abbrev pub invariant-loop-limit : goal.invariant-loop-limit
invariant-loop-limit l = All (λ sets. IsMissedComb l.x.entries sets.items) l.found.items

abbrev pub invariant-loop-city : goal.invariant-loop-city
invariant-loop-city l = All (λ sets. IsMissedComb l.x.entries sets.items) l.found.items
