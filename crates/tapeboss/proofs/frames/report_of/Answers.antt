use Rattle.tapeboss.proofs.FrameLemmas.{report_heard}
use Rattle.tapeboss.proofs.frames.report_of.Goals as goal

pub returns-in-Some-clause-hears : goal.returns-in-Some-clause-hears
returns-in-Some-clause-hears c =
    report_heard c.args.n c.args.args.now c.split_at.result.1.now c.first_word.result c.in_ok-report.field-0 c.in-Some.report c.if-args-lt4.false c.split_at.ensures.back c.first_word.ensures c.in_ok-report.ensures c.in-Some.is
