use Rattle.std.proofs.Common.{◌^◌, ap, sym, subst, ◌∙◌, arith}
use Rattle.std.specs.List.{All}
use Rattle.std.proofs.lemmas.Int.{ints}
use Rattle.lpcheck.specs.Sizes.{IsWithin}
use Rattle.lpcheck.specs.Cells.{lows}
use Rattle.lpcheck.proofs.Bounds.{duals_within, costs_within}
use Rattle.lpcheck.proofs.Sums.{low_is}
use Rattle.lpcheck.proofs.rest.lower_of.Goals as goal

pub worth_of-requires-clause-sizes : goal.worth_of-requires-clause-sizes
worth_of-requires-clause-sizes c = duals_within c.args.rows.now c.args.ys.now c.requires.duals

pub low_of-requires-clause-sizes : goal.low_of-requires-clause-sizes
low_of-requires-clause-sizes c =
    subst (All (IsWithin (2 ^ 100))) (sym c.requires.costs)
    (costs_within c.args.rows.now c.args.ys.now c.args.cols.now c.requires.small (duals_within c.args.rows.now c.args.ys.now c.requires.duals) c.requires.few c.requires.cheap)

pub returns-clause-value : goal.returns-clause-value
returns-clause-value c =
    let low = ap (lows c.args.cols.now) c.requires.costs ∙ low_is c.args.rows.now c.args.ys.now c.args.cols.now in
    omega (arith, ints, low, c.low_of.ensures.value, c.worth_of.ensures.value)
