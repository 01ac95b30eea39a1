use Rattle.std.proofs.Common.{List, subst}
use Rattle.std.specs.Prelude.{ℤ}
use Rattle.onetree.specs.OneTrees.{IsHeldKarp}
use Rattle.bound_cases.proofs.tests.written.Goals as goal

pub write-requires-clause-some : goal.write-requires-clause-some
write-requires-clause-some c = λ h is. c.in_ok-duals.ensures.some h (subst (λ (p : List ℤ). IsHeldKarp c.args.instance.now p h) c.deref.ensures.value is)
