use Rattle.std.proofs.Common.{◌≡◌, List, ◌++◌}
use Rattle.std.specs.List.{All}
use Rattle.tspdef.specs.Cuts.{Cut}
use Rattle.sepblos.specs.Violated.{IsWorth}
use Rattle.sepblos.proofs.MadeLemmas.{GoOn}
use Rattle.sepcomb.specs.Combs.{IsCombOf}
use Rattle.sepcomb.proofs.combs_above.Given as goal

abbrev pub invariant-loop-set : goal.invariant-loop-set
invariant-loop-set l = record {
  made : (more : List Cut) × ((l.cuts.items ≡ l.fn.others.items ++ more) × GoOn (IsCombOf l.x) l.set-items l.set-index more);
  worth : All (IsWorth l.x) l.cuts.items;
}
