use Rattle.maxflow.proofs.shrinking.tie.Goals as goal

pub tie-requires-clause-degrees : goal.tie-requires-clause-degrees
tie-requires-clause-degrees c = rw (c.deref.ensures.value, c.deref-2.ensures.value) c.requires.so_far.degrees

pub returns : goal.returns
returns c = rw c.deref.ensures.value at c.tie.ensures
