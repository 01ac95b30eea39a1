use Rattle.std.proofs.Common.{pos, arith}
use Rattle.std.proofs.lemmas.Int.{ints}
use Rattle.nodelp.proofs.HoldingLemmas.{price_of_parts}
use Rattle.nodelp.proofs.pricing.price_of.Goals as goal

pub returns-clause-value : goal.returns-clause-value
returns-clause-value c =
    let value = price_of_parts _ c.args.rows.now c.args.ys.now c.args.hs.now c.args.places.now c.args.u c.args.v c.requires.holdings c.requires.joining c.requires.from c.requires.to in
    let h = c.requires.holdings in
    let at_u = h.size c.args.u (pos 0) (omega (arith, c.requires.from, c.requires.to)) in
    let at_v = h.size c.args.v (pos 0) c.requires.to in
    omega (arith, ints, value, c.less_twice.ensures.size.low, c.less_twice.ensures.size.high, c.less_twice.ensures.value, c.sharing_at.ensures.value, c.sharing_at.ensures.size.low, c.sharing_at.ensures.size.high, at_u.low, at_u.high, at_v.low, at_v.high)
