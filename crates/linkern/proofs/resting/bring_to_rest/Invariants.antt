use Rattle.std.proofs.Common.{◌≡◌, ◌≤◌, length}
use Rattle.tspdef.specs.Tours.{steps}
use Rattle.tspdef.specs.Fixed.{AreSteps}
use Rattle.tspdef.specs.Instances.{length_in}
use Rattle.linkern.proofs.resting.bring_to_rest.Given as goal

abbrev pub invariant-loop-x : goal.invariant-loop-x
invariant-loop-x l = record {
  size : length l.tour ≡ length l.fn.tour;
  held : AreSteps (steps l.tour) l.instance.fixed;
  no_longer : length_in l.instance l.tour ≤ length_in l.instance l.fn.tour;
}

abbrev pub decreases-loop-x : goal.decreases-loop-x
decreases-loop-x l = length_in l.instance l.tour
