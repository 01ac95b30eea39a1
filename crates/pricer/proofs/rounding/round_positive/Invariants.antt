use Rattle.std.proofs.Common.{◌≡◌}
use Rattle.pricer.specs.Rounds.{positive}
use Rattle.pricer.proofs.rounding.round_positive.Given as goal

abbrev pub invariant-loop-item : goal.invariant-loop-item
invariant-loop-item g l = l.kept.items ≡ positive l.yielded
