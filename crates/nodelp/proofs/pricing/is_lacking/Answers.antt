use Rattle.std.proofs.Common.{subst}
use Rattle.nodelp.specs.Pricing.{ArePotentials}
use Rattle.nodelp.proofs.PriceLemmas.{shown}
use Rattle.nodelp.proofs.pricing.is_lacking.Goals as goal

pub returns-then-is_shown-clause-passed : goal.returns-then-is_shown-clause-passed
returns-then-is_shown-clause-passed c = λ none. shown c.args.instance.now c.args.path.now.conditions c.args.lp.now c.args.ps.now c.args.u c.args.v
    (subst (λ ys. ArePotentials c.args.instance.now.n c.args.lp.now.rows ys c.args.ps.now) c.requires.duals c.requires.potentials) c.requires.ordered c.requires.within (c.is_shown.ensures c.if-is_shown.true)
