use Rattle.std.proofs.Common.{arith}
use Rattle.distx.specs.Kind.{rule_of}
use Rattle.tspinst.proofs.FillLemmas.{filled}
use Rattle.tspinst.proofs.square.fill.Goals as goal

pub returns-clause-same : goal.returns-clause-same
returns-clause-same c = filled (rule_of c.args.kind) _ _ _ 0 c.loop-u.invariant.table c.loop-u.invariant.fills (omega arith)
