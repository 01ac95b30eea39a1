use Rattle.tspinst.proofs.ForestLemmas.{none_left_out}
use Rattle.tspinst.proofs.fixing.Fixing.into_parts.Goals as goal

pub returns-clause-fixable : goal.returns-clause-fixable
returns-clause-fixable c =
    let h = c.self.invariant.1 in
    rw (← c.self.view_is) (record { below = h.below; rising = h.rising; few = h.few; open_ended = none_left_out _ _ _ h.below h.named h.open_ended })
