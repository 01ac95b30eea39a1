use Rattle.std.proofs.Common.{sym, ap, ◌∙◌, ◌++◌, ◌∷◌, [], ℕ}
use Rattle.certdef.specs.Accepted.{from_zero}
use Rattle.cyc.specs.CitySet.{Members}
use Rattle.branchx.specs.Path.{Conditions}
use Rattle.tspdef.specs.Paths.{two}
use Rattle.certdef.specs.Tests.{is_proper}
use Rattle.certcheck.specs.Purposes.{tests_by}
use Rattle.certcheck.specs.Stages.{head}
use Rattle.certcheck.proofs.StepLemmas.{clique_goes}
use Rattle.certcheck.proofs.progress.Progress.on_clique.Goals as goal

pub returns-clause-goes : goal.returns-clause-goes
returns-clause-goes c =
    let s = c.args.self.now in
    let set = c.in_ok-set.ensures.value in (
      clique_goes (tests_by c.args.self.now.purpose c.args.instance.now) (head s) s.path.conditions c.push.new.self.conditions c.args.at c.args.set.items
          (ap (λ (m : Members). is_proper m.n m.cities) (sym (set ∙ ap (λ (k : ℕ). record { n = k; cities = from_zero c.args.set.items }) c.n.ensures.same)) ∙ sym c.is_proper.ensures ∙ c.if-not-is_proper.false)
          (ap (λ (p : Conditions). p.conditions) c.in_ok-push.ensures.ok ∙ ap (λ (m : Members). s.path.conditions ++ two m.cities ∷ []) set),
      record { of = record { path = ap (λ (p : Conditions). p.n) c.in_ok-push.ensures.ok ∙ c.requires.of.path; cuts = c.requires.of.cuts }; stage = tt },
    )
