use Rattle.std.proofs.Common.{◌≡◌, length}
use Rattle.std.specs.List.{All}
use Rattle.sepsub.specs.LeastSets.{IsViolated}
use Rattle.sepsub.proofs.unions.mapped.Given as goal

abbrev pub invariant-loop-set : goal.invariant-loop-set
invariant-loop-set l = record {
  light : All (IsViolated l.x) l.all.items;
  many : length l.all.items ≡ l.set-index;
}
