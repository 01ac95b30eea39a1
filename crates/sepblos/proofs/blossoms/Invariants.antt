use Rattle.std.specs.List.{All}
use Rattle.sepblos.specs.Violated.{IsWorth}
use Rattle.sepblos.specs.Blossoms.{IsBlossom}
use Rattle.sepblos.proofs.MadeLemmas.{GoOn}
use Rattle.sepblos.proofs.blossoms.Given as goal

abbrev pub invariant-loop-set : goal.invariant-loop-set
invariant-loop-set l = record {
  made : GoOn (IsBlossom l.x) l.set-items l.set-index l.cuts.items;
  worth : All (IsWorth l.x) l.cuts.items;
}
