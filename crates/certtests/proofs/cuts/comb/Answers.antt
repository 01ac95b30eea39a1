use Rattle.std.proofs.Common.{sym, ap, ◌∙◌}
use Rattle.std.specs.Option.{is_some}
use Rattle.std.proofs.lemmas.Result.{IfOk-weaker}
use Rattle.certtests.proofs.Listing.{comb_passes, comb_fails, comb_listed}
use Rattle.certtests.proofs.cuts.comb.Goals as goal

pub returns-in-Ok-clause-found : goal.returns-in-Ok-clause-found
returns-in-Ok-clause-found c = sym (comb_passes c.args.handle.n c.args.handle.cities c.args.teeth.items c.in-Ok.ensures.is_comb)

pub returns-in-Ok-clause-value : goal.returns-in-Ok-clause-value
returns-in-Ok-clause-value c = comb_listed c.args.handle.n c.in-Ok.cut c.args.handle.cities c.args.teeth.items c.in-Ok.ensures.made

pub returns-in-Err-clause-found : goal.returns-in-Err-clause-found
returns-in-Err-clause-found c =
    let fails = comb_fails c.args.handle.n c.args.handle.cities c.args.teeth.items in
    IfOk-weaker c.none_for.result _ _ (λ o h. ap is_some h.0 ∙ sym (fails (λ is_comb. h.1 (c.in-Err.ensures.complete is_comb)))) c.none_for.ensures
