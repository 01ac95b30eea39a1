use Rattle.std.proofs.Common.{pos, arith}
use Rattle.std.proofs.lemmas.Int.{ints}
use Rattle.nodelp.proofs.HoldingLemmas.{potential_parts}
use Rattle.nodelp.proofs.pricing.holding.Goals as goal

pub returns-clause-value : goal.returns-clause-value
returns-clause-value c =
    let parts = potential_parts c.args.rows.now c.args.ys.now c.args.v in
    let is = c.requires.potentials.each c.args.v c.requires.city in
    let at_v = c.requires.within c.args.v (pos 0) c.requires.city in
    omega (arith, ints, parts, is, at_v.low, at_v.high, c.less.ensures.value, c.less.ensures.size.low, c.less.ensures.size.high, c.excess.ensures.value, c.excess.ensures.size.low, c.excess.ensures.size.high)
