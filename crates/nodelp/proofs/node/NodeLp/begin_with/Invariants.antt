use Rattle.nodelp.specs.Adding.{AreFurther}
use Rattle.nodelp.proofs.node.NodeLp.begin_with.Given as goal

abbrev pub invariant-loop-cut : goal.invariant-loop-cut
invariant-loop-cut l = AreFurther l.cut-index l.fn.self l.self
