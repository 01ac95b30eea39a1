use Rattle.std.proofs.Common.{sym, subst}
use Rattle.tspengine.specs.Calls.{Call, on_desk}
use Rattle.tspengine.specs.Verifying.{Verifies}
use Rattle.tspengine.specs.declared.statuses.Status.{Status}
use Rattle.tspengine.proofs.Verifies.{verifies}
use Rattle.tspengine.proofs.verifying.verify.Goals as goal

pub returns-clause-ends : goal.returns-clause-ends
returns-clause-ends g c = λ call says kept.
    let here : Call = on_desk (g.D.Desk.told c.args.desk.now) (g.D.Desk.told c.verify.new.desk) call in
    subst (λ (s : Status). Verifies s here) (sym c.status_of.ensures) (verifies c.verify.result c.args.words.now here says c.verify.ensures.status kept c.verify.ensures.answers)
