use Rattle.std.proofs.Common.{ap, ◌∙◌}
use Rattle.tspdef.specs.Paths.{fixed_conditions}
use Rattle.branchx.specs.Path.{Conditions}
use Rattle.certcheck.specs.Stages.{head}
use Rattle.certcheck.proofs.StepLemmas.{root_goes}
use Rattle.certcheck.proofs.progress.Progress.cuts_on.Goals as goal

pub returns-clause-goes : goal.returns-clause-goes
returns-clause-goes c =
    let s = c.args.self.now in (
      root_goes c.args.self.now.purpose c.args.instance.now (head s) c.args.left c.in_ok-self.field-0.conditions c.if-left-ne0.false (ap (λ (p : Conditions). p.conditions) c.in_ok-self.ensures ∙ ap fixed_conditions c.fixed.ensures),
      record { of = record { path = ap (λ (p : Conditions). p.n) c.in_ok-self.ensures ∙ c.n.ensures.same; cuts = c.requires.cuts }; stage = tt },
    )
