use Rattle.std.proofs.Common.{subst}
use Rattle.tspplain.specs.Values.{instance_of}
use Rattle.tspplain.specs.Searches.{IsBestFrom}
use Rattle.tspplain.proofs.search.least_tour.Goals as goal

pub returns-clause-least : goal.returns-clause-least
returns-clause-least c = subst (IsBestFrom (instance_of c.args.instance.now) c.extend.new.best) c.new-front.ensures.items c.in_ok-extend.ensures.best
