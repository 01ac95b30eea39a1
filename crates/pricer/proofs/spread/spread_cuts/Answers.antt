use Rattle.pricer.specs.Prices.{at}
use Rattle.pricer.proofs.SpreadLemmas.{cuts_number_size}
use Rattle.pricer.proofs.spread.spread_cuts.Goals as goal

pub spread_cut-requires-clause-numbers : goal.spread_cut-requires-clause-numbers
spread_cut-requires-clause-numbers c = λ v.
    cuts_number_size c.args.n _ (at c.args.numbers.now v) c.args.holder c.args.cuts.now c.loop-q.rest.now v
    c.requires.few c.requires.some c.loop-q.invariant.few c.requires.cuts c.requires.sizes c.loop-q.invariant.cuts c.loop-q.invariant.sizes (c.requires.numbers v) (c.loop-q.invariant.so_far v)
