use Rattle.std.proofs.Common.{arith}
use Rattle.std.proofs.lemmas.Int.{ints}
use Rattle.pricer.proofs.bounds.worth.Goals as goal

pub returns-clause-value : goal.returns-clause-value
returns-clause-value g c =
    let cuts = rw c.cuts.ensures at c.cuts_worth.ensures.value in
    let cliques = rw c.conds.ensures at c.cliques_worth-cliques.ensures.value in
    omega (arith, ints)
