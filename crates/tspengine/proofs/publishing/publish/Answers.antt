use Rattle.std.proofs.lemmas.Result.{on_err_weaker}
use Rattle.tspengine.proofs.Fronts.{text_torn}
use Rattle.tspengine.proofs.publishing.publish.Goals as goal

pub returns-clause-fronts : goal.returns-clause-fronts
returns-clause-fronts g c = on_err_weaker c.write_all-2.result
    (λ (k, less, front). text_torn c.args.path.now c.args.proof.now c.args.printed.now k _ _ _ _ c.in_ok-bind_out.ensures.bound c.in_ok-write_all.ensures.all front)
    c.write_all-2.ensures.front
