use Rattle.std.proofs.Common.{sym, subst}
use Rattle.std.proofs.lemmas.Bool.{both_ways}
use Rattle.branchx.specs.Choice.{IsFirstFit}
use Rattle.branchx.proofs.FitLemmas.{fits_here, fits_later, none_later}
use Rattle.branchx.proofs.fit.first_fit.Goals as goal

pub returns-then-is_fit : goal.returns-then-is_fit
returns-then-is_fit c =
    let x = c.args.x.now in
    let path = c.args.path.now.conditions in
    let sets = c.args.sets.now in
    let s = c.set-item.result in
    subst (IsFirstFit x path sets) (sym c.in_ok-copy.ensures)
    (c.loop-set.invariant.first s (fits_here x path sets c.loop-set.set-index s c.loop-set-test.true c.set-item.is (c.is_fit.ensures.0 c.if-is_fit.true)))

pub loop-set-preserved : goal.loop-set-preserved
loop-set-preserved c =
    let x = c.args.x.now in
    let path = c.args.path.now.conditions in
    let sets = c.args.sets.now in
    let s = c.set-item.result in
    let i = c.loop-set.set-index in
    record {
      first = λ t f. c.loop-set.invariant.first t (fits_later x path sets i s t c.loop-set-test.true c.set-item.is (λ fit. both_ways _ c.if-is_fit.false (c.is_fit.ensures.1 fit)) f);
      none = λ n. c.loop-set.invariant.none (none_later x path sets i s c.loop-set-test.true c.set-item.is (λ fit. both_ways _ c.if-is_fit.false (c.is_fit.ensures.1 fit)) n);
    }
