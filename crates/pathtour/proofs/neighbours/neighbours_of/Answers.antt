use Rattle.std.proofs.lemmas.Result.{IfOk-weaker}
use Rattle.branchx.specs.Cond.{conditions_of}
use Rattle.pathtour.proofs.JoinedLemmas.{judged}
use Rattle.pathtour.proofs.neighbours.neighbours_of.Goals as goal

pub returns : goal.returns
returns c = IfOk-weaker c.twos_of.result _ _ (λ r m. judged (λ v. v.items) c.args.n (conditions_of c.args.conditions.now) c.deref.result.now r c.requires (rw c.deref.ensures.value c.in_ok-joined.ensures) m) c.twos_of.ensures
