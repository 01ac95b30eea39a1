-- The best of all open pairs.
use Rattle.std.proofs.Common.{◌<◌, ◌≤◌, inl, Bool, List, None, sym, subst, ◌∙◌, arith}
use Rattle.tspdef.specs.Paths.{Condition, DecidesAll}
use Rattle.cyc.specs.Frac.{Values}
use Rattle.branchx.specs.declared.nearest.Open.{Open}
use Rattle.branchx.specs.Choice.{from_half, IsNearest}
use Rattle.branchx.specs.Table.{IsTableOf, IsNearestBefore, IsBestBefore}

pub decided_all : (x : Values) (path : List Condition) (table : List Bool) → IsTableOf x.n path table → IsBestBefore x table x.n 0 None → DecidesAll x.n path
decided_all x path table is all u v l h = sym (is.right u v l h) ∙ all u v l h (inl (omega arith))

pub nearest_is : (x : Values) (path : List Condition) (table : List Bool) (o : Open) → IsTableOf x.n path table → IsNearestBefore x table x.n 0 o → IsNearest x path o.u o.v
nearest_is x path table o is near = record {
  pair = near.pair;
  free = sym (is.right o.u o.v near.pair.0 near.pair.1) ∙ near.free;
  nearest = λ u v l h f. subst (λ k. k ≤ from_half x u v) near.far (near.nearest u v l h (inl (omega arith)) (is.right u v l h ∙ f));
  first = λ u v l h f before. subst (λ k. k < from_half x u v) near.far (near.first u v l h before (is.right u v l h ∙ f));
}
