use Rattle.std.proofs.Common.{◌≤◌, sym, subst}
use Rattle.tspdef.specs.Laws.{most_crossed}
use Rattle.tspplain.specs.Values.{cut_of}
use Rattle.tspplain.proofs.CutLemmas.{few_crossed}
use Rattle.tspplain.proofs.cuts.cut_coefficient.Goals as goal

pub returns-clause-small : goal.returns-clause-small
returns-clause-small c is = subst (λ k. k ≤ most_crossed c.args.n (cut_of c.args.n c.args.cut.now)) (sym c.sets_crossed.ensures) ((c.cuts_are_small.ensures c.args.n (cut_of c.args.n c.args.cut.now) is).crossed c.args.u c.args.v)

pub returns-clause-few : goal.returns-clause-few
returns-clause-few c is = subst (λ k. k ≤ 4096) (sym c.sets_crossed.ensures) (few_crossed c.args.n (cut_of c.args.n c.args.cut.now) c.args.u c.args.v is)
