use Rattle.std.proofs.Common.{sym, ap, ◌∙◌}
use Rattle.branchx.specs.Path.{Conditions}
use Rattle.certcheck.specs.Purposes.{tests_by}
use Rattle.certcheck.specs.Stages.{head}
use Rattle.certcheck.proofs.StepLemmas.{edge_goes}
use Rattle.certcheck.proofs.progress.Progress.on_edge.Goals as goal

pub returns-clause-goes : goal.returns-clause-goes
returns-clause-goes c =
    let s = c.args.self.now in (
      edge_goes (tests_by c.args.self.now.purpose c.args.instance.now) (head s) s.path.conditions c.push.new.self.conditions c.args.at c.args.u c.args.v
          (sym c.decides.ensures ∙ c.if-decides.false) (ap (λ (p : Conditions). p.conditions) c.in_ok-push.ensures.ok),
      record { of = record { path = ap (λ (p : Conditions). p.n) c.in_ok-push.ensures.ok ∙ c.requires.of.path; cuts = c.requires.of.cuts }; stage = tt },
    )
