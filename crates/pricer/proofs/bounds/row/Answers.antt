use Rattle.std.proofs.Common.{◌∙◌, sym}
use Rattle.pricer.proofs.RowLemmas.{price_size, bare_row_sum}
use Rattle.pricer.proofs.bounds.row.Goals as goal

pub bare_row_loss-requires-clause-price : goal.bare_row_loss-requires-clause-price
bare_row_loss-requires-clause-price g c = λ k. rw (c.requires.price k) (price_size c.args.instance.now (g.T.Trail.conditions c.args.trail) c.args.closing.now k c.requires.few c.requires.closing)

pub returns-else-is_at-clause-value : goal.returns-else-is_at-clause-value
returns-else-is_at-clause-value g c =
    c.bare_row_loss.ensures.value ∙ bare_row_sum c.args.instance.now (g.T.Trail.conditions c.args.trail) c.args.closing.now c.args.price.now c.args.v c.requires.price (c.requires.marks c.args.v (sym c.is_at.ensures ∙ c.if-is_at.false))
