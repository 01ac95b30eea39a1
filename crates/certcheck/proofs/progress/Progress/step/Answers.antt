use Rattle.std.proofs.Common.{◌≡◌, sym, subst}
use Rattle.std.specs.Prelude.{IfOk}
use Rattle.verdict.specs.Parts as parts
use Rattle.certline.specs.Said.{said}
use Rattle.certcheck.specs.Purposes.{parts_in}
use Rattle.certcheck.specs.Stages.{stage_at}
use Rattle.certcheck.specs.declared.purpose.Purpose.TheVariants as purposes
use Rattle.certcheck.proofs.progress.Progress.step.Goals as goal

pub returns-in-Tree-clause-says : goal.returns-in-Tree-clause-says
returns-in-Tree-clause-says c =
    subst (λ s. IfOk c.on_tree.result (λ o. c.args.self.now.purpose ≡ purposes.Resume → parts_in o ≡ parts.says c.args.instance.now.n (stage_at c.args.self.now s) (said c.args.item))) (sym c.in-Tree.is) c.on_tree.ensures.says
