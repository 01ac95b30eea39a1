use Rattle.pricer.proofs.decided.reduced_cost.Goals as goal

pub cuts_price-requires-clause-cuts : goal.cuts_price-requires-clause-cuts
cuts_price-requires-clause-cuts g c = rw (c.n-n.ensures.same, c.cuts.ensures) c.requires.closing.cuts
