use Rattle.std.proofs.Common.{Err, ap, arith}
use Rattle.ports.proofs.Transfers.{passed_on}
use Rattle.ports.proofs.transfer.read_to_end.Goals as goal

pub returns-in_err-read_blocks-clause-cause : goal.returns-in_err-read_blocks-clause-cause
returns-in_err-read_blocks-clause-cause g c = record {
  later = omega (arith, c.read_blocks.ensures.cause.later);
  rose = λ h. c.in_err-read_blocks.ensures.cause.rose (ap (λ e. Err e) (passed_on c.from_residual-in_err-read_blocks.result c.in_err-read_blocks.field-0.0 _ c.from_residual-in_err-read_blocks.ensures.1 h));
}

pub returns-clause-cause : goal.returns-clause-cause
returns-clause-cause g c = record {
  later = omega (arith, c.read_blocks.ensures.cause.later);
  rose = λ h. absurd (cc h);
}
