use Rattle.std.proofs.Common.{rules, sym, ◌∙◌}
use Rattle.verification.proofs.Tells.{on_ok}
use Rattle.viewing.proofs.Bytes.{too_long}
use Rattle.viewing.proofs.reading.read_mapped.Goals as goal

pub returns-in-Err-TooLong-clause-reading : goal.returns-in-Err-TooLong-clause-reading
returns-in-Err-TooLong-clause-reading g c =
    let told = g.D.Desk.told in
    let (k, few, taken) = c.read_to_end.ensures.taken in
    too_long c.args.path.now k (told c.args.desk.now) (told c.bind_in.new.self) (told c.read_to_end.new.desk) few
    (on_ok c.bind_in.result (sym c.is_err.ensures.value ∙ c.if-is_err.false) c.bind_in.ensures.bound)
    (c.read_to_end.ensures.too_long (search rules)) taken
