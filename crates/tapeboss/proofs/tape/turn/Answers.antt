use Rattle.std.proofs.Common.{Err, inr, ap, arith}
use Rattle.tapeboss.specs.declared.error.TapeError.TheVariants.{Bad}
use Rattle.tapeboss.proofs.PieceLemmas.{err_is}
use Rattle.tapeboss.proofs.tape.turn.Goals as goal

pub returns-in-Err-clause-bad : goal.returns-in-Err-clause-bad
returns-in-Err-clause-bad c = λ f k e.
    let h = c.in-Err.ensures.bad f k (ap Err (err_is c.in-Err.error (Bad f k) e)) in
    let word = c.first_word-size.ensures in
    record {
      fault = inr (
        record {
          header = c.if-begun-lt-HEADER.false;
          size = (omega (arith, word, c.if-size-lt1.false), omega (arith, word, c.if-size-gt-LONGEST.false));
          whole = omega (arith, word, c.if-begun-size.false);
        },
        h.fault,
      );
      at = h.at;
      put = h.put;
    }
