use Rattle.std.proofs.Common.{◌≡◌, false}
use Rattle.tspinst.specs.Fixings.{leaves_out}
use Rattle.tspinst.proofs.fixing.Fixing.leaves_out.Given as goal

abbrev pub invariant-loop-c : goal.invariant-loop-c
invariant-loop-c l = leaves_out l.self.pairs l.u l.c ≡ false
