use Rattle.maxflow.proofs.ShrunkGroups.{shrunk_groups}
use Rattle.maxflow.proofs.shrinking.shrink.Goals as goal

pub returns : goal.returns
returns c = shrunk_groups c.args.x.now c.n-n.result c.entries-entries.result.now c.loop-a.merging c.loop-a.a
    c.n-n.ensures.value c.entries-entries.ensures.value c.loop-a.invariant.so_far c.loop-a.invariant.below c.loop-a-test.false
