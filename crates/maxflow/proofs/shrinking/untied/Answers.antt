use Rattle.std.proofs.Common.{◌+◌}
use Rattle.maxflow.proofs.ShrinkLemmas.{untied_but, untied_with}
use Rattle.maxflow.proofs.shrinking.untied.Goals as goal

pub loop-merging-init : goal.loop-merging-init
loop-merging-init c = record {
  so_far = c.requires.so_far;
  first = c.requires.first;
  below = untied_but c.args.n c.args.entries.now c.args.merging.shrunk.groups.items c.args.a c.requires.below;
}

pub loop-merging-preserved : goal.loop-merging-preserved
loop-merging-preserved c =
    let e = c.in_ok-merging.ensures in
    record {
      so_far = e.now;
      first = e.first;
      below = e.below (c.args.a + 1) c.loop-merging.invariant.below;
    }

pub returns-clause-below : goal.returns-clause-below
returns-clause-below c =
    untied_with c.args.n c.args.entries.now c.loop-merging.merging.shrunk.groups.items (c.args.a + 1) c.loop-merging.at c.loop-merging.invariant.below (rw c.in_default.is at c.in_ok-one.ensures)
