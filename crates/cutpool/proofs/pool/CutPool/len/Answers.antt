use Rattle.cutpool.proofs.PoolLemmas.{distinct_are}
use Rattle.cutpool.proofs.pool.CutPool.len.Goals as goal

pub returns-clause-distinct : goal.returns-clause-distinct
returns-clause-distinct c = rw (← c.self.view_is) (distinct_are c.self.inside.cuts.keys c.len.ensures.unique)
