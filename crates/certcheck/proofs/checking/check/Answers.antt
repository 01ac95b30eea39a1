use Rattle.std.proofs.Common.{arith}
use Rattle.certcheck.proofs.CheckLemmas.{accepted_of}
use Rattle.certcheck.proofs.checking.check.Goals as goal

pub returns-clause-accepted : goal.returns-clause-accepted
returns-clause-accepted g c =
    accepted_of c.args.instance.now c.judge.result (g.D.Desk.told c.args.desk.now) (omega (arith, c.n-few.ensures.instance.few)) c.yes_is_accepted_text.ensures c.judge.ensures.judged
