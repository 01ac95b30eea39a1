use Rattle.std.proofs.Common.{arith, sym, ◌∙◌}
use Rattle.tspinst.proofs.PlaceLemmas.{placed}
use Rattle.tspinst.proofs.fixing.place_of.Goals as goal

pub returns-then-comes_before-clause-place : goal.returns-then-comes_before-clause-place
returns-then-comes_before-clause-place c = placed c.args.pair c.args.pairs.now c.loop-place.place c.loop-place.invariant (omega arith) (λ l. sym c.comes_before.ensures ∙ c.if-comes_before.true)

pub returns-clause-place : goal.returns-clause-place
returns-clause-place c = placed c.args.pair c.args.pairs.now _ (λ i l. c.loop-place.invariant i (omega arith)) (omega arith) (λ l. absurd (omega arith))
