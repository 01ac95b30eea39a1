use Rattle.std.proofs.Common.{◌≡◌}
use Rattle.pathtour.proofs.tests.path_of.Given as goal

abbrev pub invariant-loop-u : goal.invariant-loop-u
invariant-loop-u l = l.path.n ≡ l.n
