use Rattle.std.proofs.Common.{arith}
use Rattle.onetree.specs.OneTrees.{reduced}
use Rattle.onetree.proofs.Growing.{span_end}
use Rattle.onetree.proofs.tree.spanning.Goals as goal

pub step-requires-clause-front : goal.step-requires-clause-front
step-requires-clause-front c = c.loop-inside.invariant.front

pub step-requires-clause-some : goal.step-requires-clause-some
step-requires-clause-some c = let o = c.loop-inside.invariant.outside in let l = c.loop-inside-test.true in omega arith

pub loop-inside-preserved : goal.loop-inside-preserved
loop-inside-preserved c =
    let i = c.loop-inside.invariant in
    let a = c.step.ensures.outside in
    let b = i.outside in record {
      front = c.step.ensures.front;
      outside = omega arith;
      growing = rw c.in_ok-push.ensures.items (c.step.ensures.growing c.loop-inside.tree.items i.growing);
    }

pub returns : goal.returns
returns c =
    let i = c.loop-inside.invariant in
    let o = i.outside in
    span_end c.args.instance.now.n (reduced c.args.instance.now c.args.duals.now) c.loop-inside.frontier.inside.items c.loop-inside.tree.items i.front.marks (omega arith) i.growing
