use Rattle.cyc.proofs.WholeTours.{numbers_are_whole}
use Rattle.cyc.proofs.tour.Tour.identity.Goals as goal

pub invariant_of-result : goal.invariant_of-result
invariant_of-result c = rw c.in_ok-numbers.ensures (numbers_are_whole c.args.n c.requires.many c.requires.few)
