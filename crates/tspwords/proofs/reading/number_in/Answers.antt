use Rattle.std.proofs.Common.{◌∙◌, arith}
use Rattle.tspwords.proofs.Numbers.{number_within}
use Rattle.tspwords.proofs.reading.number_in.Goals as goal

pub returns-then-number-most-clause-value : goal.returns-then-number-most-clause-value
returns-then-number-most-clause-value c =
    c.unwrap_or-number.ensures ∙ number_within c.args.least c.args.most c.args.default c.args.word.now c.parse.result c.parse.ensures.value.0
    (omega (arith, c.unwrap_or-number.ensures, c.if-least-number.true)) (omega (arith, c.unwrap_or-number.ensures, c.if-number-most.true))
