use Rattle.std.proofs.Common.{sym, ap, ◌∙◌}
use Rattle.std.specs.Option.{is_some}
use Rattle.std.proofs.lemmas.Result.{IfOk-weaker}
use Rattle.certtests.specs.Listed.{listed}
use Rattle.certtests.proofs.Listing.{odd_passes, odd_fails}
use Rattle.certtests.proofs.cuts.odd.Goals as goal

pub returns-in-Ok-clause-found : goal.returns-in-Ok-clause-found
returns-in-Ok-clause-found c = sym (odd_passes c.args.handle.n c.args.handle.cities c.args.pairs.items c.in-Ok.ensures.is_odd)

pub returns-in-Ok-clause-value : goal.returns-in-Ok-clause-value
returns-in-Ok-clause-value c = ap listed c.in-Ok.ensures.made

pub returns-in-Err-clause-found : goal.returns-in-Err-clause-found
returns-in-Err-clause-found c =
    let fails = odd_fails c.args.handle.n c.args.handle.cities c.args.pairs.items in
    IfOk-weaker c.none_for.result _ _ (λ o h. ap is_some h.0 ∙ sym (fails (λ is_odd. h.1 (c.in-Err.ensures.complete is_odd)))) c.none_for.ensures
