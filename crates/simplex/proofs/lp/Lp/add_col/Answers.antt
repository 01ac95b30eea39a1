use Rattle.std.proofs.Common.{[], ◌∷◌}
use Rattle.simplex.proofs.AnswerLemmas.{kept_wider}
use Rattle.simplex.proofs.lp.Lp.add_col.Goals as goal

pub invariant_of-self-2 : goal.invariant_of-self-2
invariant_of-self-2 c = kept_wider c.self.inside c.push.new.self (record { u = c.args.u; v = c.args.v; cost = c.args.cost; must = c.args.must } ∷ []) c.self.invariant c.in_ok-push.ensures.ok
