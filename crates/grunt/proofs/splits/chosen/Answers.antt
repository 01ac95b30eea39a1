use Rattle.std.proofs.Common.{subst, arith}
use Rattle.std.specs.Prelude.{IfSome}
use Rattle.branchx.specs.Choice.{IsChoice}
use Rattle.worker.proofs.Edges.{edge_below_six}
use Rattle.grunt.proofs.splits.chosen.Goals as goal

pub returns-clause-edge : goal.returns-clause-edge
returns-clause-edge c = λ l.
    let x = c.values.result.now in
    let path = c.args.path.now.conditions in
    edge_below_six x path c.in-Some.branch (subst (λ o. IfSome o (IsChoice x path)) c.in-Some.is c.in_ok-chosen.ensures.choice) (omega (arith, c.values.ensures))
