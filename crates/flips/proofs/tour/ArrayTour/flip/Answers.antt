use Rattle.std.proofs.Common.{length}
use Rattle.flips.proofs.Bridges.{steps_are_within}
use Rattle.flips.proofs.tour.ArrayTour.flip.Goals as goal

pub reverse_path-requires-clause-first : goal.reverse_path-requires-clause-first
reverse_path-requires-clause-first c = (steps_are_within (length c.args.self.now) c.args.self.now c.args.a c.args.b c.n.ensures.tour c.requires.into).1

pub reverse_path-requires-clause-last : goal.reverse_path-requires-clause-last
reverse_path-requires-clause-last c = (steps_are_within (length c.args.self.now) c.args.self.now c.args.c c.args.d c.n.ensures.tour c.requires.out_of).0
