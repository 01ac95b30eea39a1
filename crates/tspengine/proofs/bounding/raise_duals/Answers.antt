use Rattle.std.proofs.Common.{List, ℤ, neg_ℤ, pos, ◌<ℤ◌, sym, subst}
use Rattle.tspdef.specs.Bounds.{scale}
use Rattle.onetree.specs.OneTrees.{IsHeldKarp}
use Rattle.tspengine.proofs.bounding.raise_duals.Goals as goal

pub bound_of-requires-clause-some : goal.bound_of-requires-clause-some
bound_of-requires-clause-some c = subst (λ (p : List ℤ). (h : ℤ) → IsHeldKarp c.args.instance.now p h → neg_ℤ (pos scale) <ℤ h) (sym c.deref.ensures.value) c.in_ok-duals.ensures.some
