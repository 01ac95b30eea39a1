use Rattle.std.proofs.Common.{refl}
use Rattle.sepsub.proofs.UnionLemmas.{numbered_on}
use Rattle.sepsub.proofs.groups.number.Goals as goal

pub loop-k-preserved : goal.loop-k-preserved
loop-k-preserved c =
    let groups = c.args.groups.now in
    let k = c.loop-k.k in
    numbered_on c.args.n k _ groups c.loop-k.all c.in_ok-all.all c.requires.groups c.loop-k-test.true c.loop-k.invariant refl c.in_ok-all.ensures.joined
