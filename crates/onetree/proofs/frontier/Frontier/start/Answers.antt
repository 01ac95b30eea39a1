use Rattle.std.proofs.Common.{◌∙◌}
use Rattle.onetree.specs.OneTrees.{reduced}
use Rattle.onetree.specs.Growing.{marked}
use Rattle.onetree.proofs.Growing.{growing_start}
use Rattle.onetree.proofs.frontier.Frontier.start.Goals as goal

pub returns-clause-growing : goal.returns-clause-growing
returns-clause-growing c = let f = c.in_ok-first_two in growing_start c.args.instance.now.n _ (reduced c.args.instance.now c.args.duals.now) (marked f.field-0.items) (f.ensures.outside ∙ c.n-n.ensures.same) f.ensures.root f.ensures.alone
