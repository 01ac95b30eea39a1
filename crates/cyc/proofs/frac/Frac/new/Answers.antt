use Rattle.std.proofs.lemmas.Result.{err_from_is_err_and}
use Rattle.cyc.proofs.frac.Frac.new.Goals as goal

pub returns-in_err-table-clause-bad_entry : goal.returns-in_err-table-clause-bad_entry
returns-in_err-table-clause-bad_entry c = λ place e.
    let p = err_from_is_err_and c.from_residual.result c.from_residual.ensures.1 in
    rw c.deref.ensures.value at (c.in_err-table.ensures.bad_entry place (let q = p.1 in let r = p.2 in cc))
