use Rattle.onetree.proofs.OneAnswer.{accepted_of}
use Rattle.onetree.proofs.checking.check.Goals as goal

pub returns-clause-accepted : goal.returns-clause-accepted
returns-clause-accepted g c =
    accepted_of c.args.instance.now c.read_and_judge.result (g.D.Desk.told c.args.desk.now) c.n-few.ensures.instance.few c.read_and_judge.ensures.judged
