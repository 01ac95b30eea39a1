use Rattle.std.proofs.Common.{◌*◌}
use Rattle.std.specs.Prelude.{pos, ◌+ℤ◌, ◌≤ℤ◌}
use Rattle.onetree.specs.Ascents.{HasValue, least_gain}
use Rattle.onetree.proofs.ascent.rest.Given as goal

abbrev pub invariant-loop-round : goal.invariant-loop-round
invariant-loop-round l = record {
  value : HasValue l.instance l.best.duals.items l.best.value;
  low : (l.base +ℤ pos (l.round * least_gain)) ≤ℤ l.best.value;
}
