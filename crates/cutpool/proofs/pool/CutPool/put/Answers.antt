use Rattle.std.proofs.Common.{refl, sym, ◌∙◌, arith, inl}
use Rattle.cutpool.proofs.PoolLemmas.{found_is, missing_is}
use Rattle.cutpool.proofs.pool.CutPool.put.Goals as goal

pub returns-in-Some-clause-put : goal.returns-in-Some-clause-put
returns-in-Some-clause-put c =
    let f = found_is c.args.cut.now c.self.inside.cuts.keys c.in-Some.number (sym c.get_index_of.ensures.index ∙ c.in-Some.is) in
    rw (← c.self.view_is) (inl (record { there = f.1; same = refl }))

pub returns-then-number-ge-MOST-clause-put : goal.returns-then-number-ge-MOST-clause-put
returns-then-number-ge-MOST-clause-put c =
    let most = c.self.invariant.room in
    rw (← c.self.view_is) (record {
      missing = missing_is c.args.cut.now c.self.inside.cuts.keys (sym c.in_default.ensures.found);
      many = omega arith;
      same = refl;
    })
