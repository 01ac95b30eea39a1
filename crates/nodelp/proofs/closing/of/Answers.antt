use Rattle.std.proofs.Common.{subst, sym}
use Rattle.std.proofs.lemmas.Result.{IfOk-weaker}
use Rattle.tspdef.specs.Closings.{Closing, Fits}
use Rattle.std.specs.Prelude.{take}
use Rattle.nodelp.specs.Duals.{newest_duals}
use Rattle.nodelp.proofs.ClosingLemmas.{closing_fits}
use Rattle.nodelp.proofs.closing.of.Goals as goal

pub returns-clause-fits : goal.returns-clause-fits
returns-clause-fits c =
    let n = c.args.lp.now.n in
    let path = c.args.path.now.conditions in
    let ys = newest_duals c.args.lp.now.last in
    IfOk-weaker c.round.result _ _ (λ (r : Closing) h.
    subst (λ k. Fits k path r) (sym c.requires.cities)
    (subst (Fits n path) (sym h) (closing_fits n path c.args.lp.now.rows c.args.cuts.now (take n ys) ys c.requires.cuts)))
    (rw (c.in_ok-cuts.ensures, c.in_ok-conds.ensures, c.first.ensures, c.newest_duals-ys.ensures, c.n-n.ensures.value, c.conditions.ensures.value) at c.round.ensures.closing)
