use Rattle.std.proofs.Common.{◌++◌, ap, subst, ◌∙◌}
use Rattle.certdef.specs.Items.{item_of}
use Rattle.verdict.specs.Parts.{line_says}
use Rattle.certcheck.specs.Keeping.{Keeps}
use Rattle.certcheck.specs.Stages.{stage_of}
use Rattle.certcheck.proofs.reading.Reading.end_line.Goals as goal

pub returns-clause-says : goal.returns-clause-says
returns-clause-says c = λ h said k.
    subst (λ x. Keeps c.put.new.self (said ++ x))
    (c.in_ok-part.ensures.says h ∙ ap (λ xs. line_says c.args.instance.now.n (stage_of c.args.self.now.progress) (item_of c.args.instance.now.n xs)) c.deref.ensures.value)
    (c.in_ok-put.ensures (c.in_ok-part.ensures.same ∙ h) said k)
