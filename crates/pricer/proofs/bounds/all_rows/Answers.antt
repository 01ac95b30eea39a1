use Rattle.pricer.proofs.RowLemmas.{price_size}
use Rattle.pricer.proofs.bounds.all_rows.Goals as goal

pub narrow-requires-clause-numbers : goal.narrow-requires-clause-numbers
narrow-requires-clause-numbers g c = λ k. rw (c.requires.price k) (price_size c.args.instance.now (g.T.Trail.conditions c.args.trail) c.args.closing.now k c.requires.few c.requires.closing)
