use Rattle.pricer.proofs.UnusedLemmas.{unused_is_no_tour}
use Rattle.pricing_cases.proofs.tests.ray_of_nothing.Goals as goal

pub ray-requires-clause-shortest : goal.ray-requires-clause-shortest
ray-requires-clause-shortest g c = λ tour is used. absurd (unused_is_no_tour c.args.instance.now.n c.args.path.now.conditions tour c.n-2.ensures.instance.many c.requires is used)
