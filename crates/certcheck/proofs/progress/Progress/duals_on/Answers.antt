use Rattle.std.proofs.Common.{ℕ, arith}
use Rattle.certcheck.specs.Purposes.{tests_by}
use Rattle.certdef.specs.Verdicts as spec
use Rattle.certcheck.specs.Paths.{later}
use Rattle.std.proofs.Common.{◌≡◌}
use Rattle.std.specs.Prelude.{IfOk}
use Rattle.verdict.specs.Parts.{leaf_says}
use Rattle.certcheck.specs.Purposes.{parts_in}
use Rattle.certcheck.specs.declared.purpose.Purpose.TheVariants as purposes
use Rattle.certcheck.specs.Stages.{head, duals, open_duals, Goes}
use Rattle.certcheck.proofs.StepLemmas.{at_zeros}
use Rattle.certcheck.proofs.progress.Progress.duals_on.Goals as goal

pub returns-clause-goes : goal.returns-clause-goes
returns-clause-goes c =
    let s = c.args.self.now in
    at_zeros (λ (x y z : ℕ). Goes c.args.instance.now.n c.close.result c.close.new.self (spec.duals_on (tests_by c.args.self.now.purpose c.args.instance.now) (head s) (later s.path.conditions) (open_duals s c.args.from) x y z))
    c.args.a c.args.b c.args.c (omega arith) (omega arith) (omega arith) c.close.ensures.goes

pub returns-clause-says : goal.returns-clause-says
returns-clause-says c =
    let s = c.args.self.now in
    at_zeros (λ (x y z : ℕ). IfOk c.close.result (λ o. s.purpose ≡ purposes.Resume → parts_in o ≡ leaf_says c.args.instance.now.n (head s) (duals s) x y z))
    c.args.a c.args.b c.args.c (omega arith) (omega arith) (omega arith) c.close.ensures.says
