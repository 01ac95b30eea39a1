use Rattle.std.proofs.Common.{List, [], ◌∷◌, map, sym, ap, subst, ◌∙◌}
use Rattle.std.specs.List.{AllByRecursion}
use Rattle.std.proofs.lemmas.List.{map-append}
use Rattle.certcheck.proofs.StepLemmas.{all-push}
use Rattle.tspdef.specs.Cuts.{IsCut}
use Rattle.certdef.specs.Proofs.{Listed}
use Rattle.certcheck.specs.Purposes.{tests_by}
use Rattle.certdef.specs.Verdicts as spec
use Rattle.certtests.specs.Listed.{listed}
use Rattle.certcheck.specs.Stages.{Goes}
use Rattle.certcheck.proofs.progress.Progress.add.Goals as goal

pub cuts_on-requires : goal.cuts_on-requires
cuts_on-requires c =
    let i = c.args.instance.now in
    record { path = c.requires.of.path; cuts = subst (AllByRecursion (IsCut i.n)) (sym c.in_ok-push.ensures.items) (all-push (IsCut i.n) c.args.self.now.cuts.items c.args.cut c.requires.of.cuts c.requires.cut) }

pub returns-clause-goes : goal.returns-clause-goes
returns-clause-goes c =
    let s = c.args.self.now in
    let i = c.args.instance.now in
    subst (λ (xs : List Listed). Goes i.n c.cuts_on.result c.cuts_on.new.self (spec.go (spec.cuts_on (tests_by c.args.self.now.purpose i) (record { long = s.long; bound = s.bound; cuts = xs }) c.args.left)))
    (ap (map listed) c.in_ok-push.ensures.items ∙ map-append listed s.cuts.items (c.args.cut ∷ [])) c.cuts_on.ensures.goes
