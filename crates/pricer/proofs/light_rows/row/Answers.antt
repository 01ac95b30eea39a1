use Rattle.std.proofs.Common.{◌^◌, arith, ap, ◌∙◌, sym, pos}
use Rattle.std.specs.Prelude.{ℤ}
use Rattle.std.specs.Int.{int_min}
use Rattle.tspdef.specs.Instances.{dist}
use Rattle.tspdef.specs.Sums.{sum_below}
use Rattle.pricer.specs.Prices.{at, cost_of}
use Rattle.pricer.proofs.SizeLemmas.{read64}
use Rattle.pricer.proofs.RowLemmas.{bare_row_sum}
use Rattle.pricer.proofs.light_rows.row.Goals as goal

pub returns-else-is_at-clause-value : goal.returns-else-is_at-clause-value
returns-else-is_at-clause-value g c =
    let i = c.args.instance.now in
    let v = c.args.v in
    let price = c.args.price.now in
    let base = read64 (2 ^ 50) (at price v) (omega arith) (c.requires.small v) in
    c.small_row_loss.ensures.value ∙ ap (λ (b : ℤ). sum_below (λ u. int_min (pos 0) (cost_of (dist i v u) b (at price u) (pos 0))) v) base
    ∙ bare_row_sum i (g.T.Trail.conditions c.args.trail) c.args.closing.now price v c.requires.price (c.requires.marks v (sym c.is_at.ensures ∙ c.if-is_at.false))
