use Rattle.pricer.specs.Prices.{at}
use Rattle.pricer.proofs.WeightLemmas.{cuts_light}
use Rattle.pricer.proofs.light.lay_cuts.Goals as goal

pub lay_cut-requires-clause-numbers : goal.lay_cut-requires-clause-numbers
lay_cut-requires-clause-numbers c = λ v.
    cuts_light _ (at c.args.numbers.now v) c.args.holder c.args.cuts.now c.loop-q.rest.now v
    c.requires.light c.loop-q.invariant.light (c.requires.numbers v) (c.loop-q.invariant.so_far v)
