use Rattle.std.proofs.Common.{◌<◌, ◌≤◌, ℕ, length, arith, ◌∙◌}
use Rattle.tspdef.specs.Instances.{length_in}
use Rattle.linkern.proofs.RestLemmas.{gain_shortens, gain_keeps}
use Rattle.linkern.proofs.resting.bring_to_rest.Goals as goal
use Rattle.linkern.proofs.resting.bring_to_rest.Goals.{After-flip}

shorter : (c : After-flip) → length_in c.args.instance.now c.flip.new.self < length_in c.args.instance.now c.loop-x.tour
shorter c = gain_shortens c.args.instance.now (length c.loop-x.tour) c.loop-x.tour c.flip.new.self c.in-Some.x c.gain.ensures.tour c.in-Some.ensures.found c.flip.ensures.flips

pub loop-x-smaller : goal.loop-x-smaller
loop-x-smaller c = shorter (goal.at.loop-x-smaller c).After-flip

still : (x y z : ℕ) → x < y → y ≤ z → x ≤ z
still x y z h l = omega arith

pub loop-x-preserved : goal.loop-x-preserved
loop-x-preserved c = record {
  size = c.flip.ensures.size ∙ c.loop-x.invariant.size;
  no_longer = still _ _ _ (shorter (goal.at.loop-x-preserved c).After-flip) c.loop-x.invariant.no_longer;
  held = gain_keeps c.args.instance.now (length c.loop-x.tour) c.loop-x.tour c.flip.new.self c.in-Some.x c.gain.ensures.tour c.in-Some.ensures.found c.flip.ensures.flips c.loop-x.invariant.held;
}
