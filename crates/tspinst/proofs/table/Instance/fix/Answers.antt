use Rattle.std.proofs.Common.{[]}
use Rattle.tspinst.proofs.ExactLemmas.{all_exact}
use Rattle.tspinst.proofs.table.Instance.fix.Goals as goal

pub returns-clause-exact : goal.returns-clause-exact
returns-clause-exact c = λ u v. rw c.hold.ensures (all_exact c.self.inside.n [] c.in_ok-fixing.fixing.pairs c.args.pairs.now 0 u v c.in_ok-fixing.ensures.judged)
