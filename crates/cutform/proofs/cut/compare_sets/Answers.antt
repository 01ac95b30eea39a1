use Rattle.std.proofs.Common.{◌∙◌, arith}
use Rattle.cutform.proofs.OrderLemmas.{compared-ends}
use Rattle.cutform.proofs.cut.compare_sets.Goals as goal

pub returns : goal.returns
returns c =
    c.cmp.ensures ∙ (compared-ends c.args.a.now c.args.b.now c.loop-i.i (omega arith) (omega arith) ∙ c.loop-i.invariant)
