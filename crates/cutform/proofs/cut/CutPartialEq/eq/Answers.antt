use Rattle.std.proofs.Common.{ap, ◌∙◌, sym, is_eq}
use Rattle.cutform.specs.Order.{same_cuts, same_cuts_tie}
use Rattle.cutform.proofs.cut.CutPartialEq.eq.Goals as goal

pub returns-clause-same : goal.returns-clause-same
returns-clause-same c =
    let e = c.is_eq.ensures ∙ ap is_eq c.cmp.ensures in
    (λ h. same_cuts c.args.self.now c.args.other.now (sym e ∙ h), λ h. e ∙ same_cuts_tie c.args.self.now c.args.other.now h)
