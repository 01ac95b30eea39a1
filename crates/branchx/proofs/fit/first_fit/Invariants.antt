use Rattle.std.proofs.Common.{drop}
use Rattle.cyc.specs.CitySet.{Members}
use Rattle.branchx.specs.Choice.{IsFirstFit, DoNoneFit}
use Rattle.branchx.proofs.fit.first_fit.Given as goal

abbrev pub invariant-loop-set : goal.invariant-loop-set
invariant-loop-set l = record {
  first : (s : Members) → IsFirstFit l.x l.path.conditions (drop l.set-index l.sets) s → IsFirstFit l.x l.path.conditions l.sets s;
  none : DoNoneFit l.x l.path.conditions (drop l.set-index l.sets) → DoNoneFit l.x l.path.conditions l.sets;
}
