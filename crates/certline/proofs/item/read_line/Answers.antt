use Rattle.std.proofs.Common.{take, ap, ◌∙◌}
use Rattle.certline.proofs.Lines.{too_long, no_word}
use Rattle.certline.proofs.Forms.{of_form}
use Rattle.certline.proofs.item.read_line.Goals as goal

pub returns-then-bytes-gt-LONGEST-clause-item : goal.returns-then-bytes-gt-LONGEST-clause-item
returns-then-bytes-gt-LONGEST-clause-item c = too_long c.args.n c.args.bytes.now c.if-bytes-gt-LONGEST.true

pub returns-in-Some-clause-form : goal.returns-in-Some-clause-form
returns-in-Some-clause-form c = of_form c.args.n _ c.behind.result c.behind.ensures

pub returns-in-None-clause-item : goal.returns-in-None-clause-item
returns-in-None-clause-item c = no_word c.args.n c.args.bytes.now (λ k e. c.in-None.ensures.none k (ap (λ i. take i c.args.bytes.now) c.word_end-end.ensures ∙ e))
