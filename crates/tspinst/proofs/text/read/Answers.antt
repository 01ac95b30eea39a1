use Rattle.std.proofs.Common.{refl}
use Rattle.tspinst.proofs.JudgingLemmas.{too_long}
use Rattle.tspinst.proofs.text.read.Goals as goal

pub returns-in-Err-TooLong-clause-refused : goal.returns-in-Err-TooLong-clause-refused
returns-in-Err-TooLong-clause-refused g c =
    let e = rw c.in-Err-TooLong.field-0-is at c.in-Err-TooLong.ensures in
    too_long _ _ (e.too_long refl) c.read_to_end.ensures.taken.0 c.read_to_end.ensures.taken.2
