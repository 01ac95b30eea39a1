use Rattle.std.proofs.Common.{◌≡◌, ◌∙◌, ap, arith}
use Rattle.std.proofs.lemmas.Result.{IfOk-weaker}
use Rattle.tspdef.specs.Paths.{fixed_conditions}
use Rattle.branchx.specs.Path.{Conditions}
use Rattle.worker.proofs.RootPaths.{root_begins, root_is_bare}
use Rattle.worker.proofs.roots.root_path.Goals as goal

pub returns-clause-no_cliques : goal.returns-clause-no_cliques
returns-clause-no_cliques c =
    IfOk-weaker c.root.result _ _ (λ (p : Conditions) e. root_is_bare c.args.instance.now p.conditions (ap (λ (q : Conditions). q.conditions) e ∙ ap fixed_conditions c.fixed.ensures)) c.root.ensures

pub returns-clause-begins : goal.returns-clause-begins
returns-clause-begins c =
    IfOk-weaker c.root.result _ _ (λ (p : Conditions) e. root_begins c.args.instance.now p.conditions (ap (λ (q : Conditions). q.conditions) e ∙ ap fixed_conditions c.fixed.ensures)) c.root.ensures
