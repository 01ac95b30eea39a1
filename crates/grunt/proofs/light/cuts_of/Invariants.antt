use Rattle.std.proofs.Common.{◌≡◌, ◌+◌, length, vec_len}
use Rattle.std.specs.List.{All}
use Rattle.sepsub.specs.LeastSets.{IsViolated}
use Rattle.sepblos.specs.Violated.{IsWorth}
use Rattle.grunt.proofs.light.cuts_of.Given as goal

abbrev pub invariant-loop-set : goal.invariant-loop-set
invariant-loop-set l = record {
  rest : All (IsViolated l.x) l.rest.items;
  cuts : All (IsWorth l.x) l.cuts.items;
  many : length l.cuts.items + length l.rest.items ≡ length l.fn.sets.items;
}

abbrev pub decreases-loop-set : goal.decreases-loop-set
decreases-loop-set l = vec_len l.rest
