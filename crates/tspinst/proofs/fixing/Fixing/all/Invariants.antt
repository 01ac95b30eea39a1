use Rattle.std.proofs.Common.{◌≡◌, [], drop}
use Rattle.tspinst.specs.Fixings.{all_fixed}
use Rattle.tspinst.proofs.fixing.Fixing.all.Given as goal

abbrev pub invariant-loop-place : goal.invariant-loop-place
invariant-loop-place l = record {
  same : l.fixing.n ≡ l.n;
  rest : all_fixed l.n l.fixing.pairs l.place (drop l.place l.pairs) ≡ all_fixed l.n [] 0 l.pairs;
}
