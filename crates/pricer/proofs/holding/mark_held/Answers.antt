use Rattle.std.proofs.Common.{arith}
use Rattle.std.proofs.lemmas.Int.{ints}
use Rattle.pricer.proofs.holding.mark_held.Goals as goal

pub mark_cuts-requires-clause-cuts : goal.mark_cuts-requires-clause-cuts
mark_cuts-requires-clause-cuts g c = rw c.cuts.ensures c.requires.closing.cuts

pub returns : goal.returns
returns g c = λ v e k.
    let cliques = c.mark_cliques.ensures v e in
    let cuts = c.mark_cuts.ensures v cliques.0 in
    let a = rw c.cuts.ensures at (cuts.1 k) in
    let b = rw c.conds.ensures at (cliques.1 k) in
    omega (arith, ints)
