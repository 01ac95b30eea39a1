use Rattle.std.proofs.Common.{◌≡◌, ◌∷◌, subst, arith}
use Rattle.tspdef.specs.Sets.{IsSet}
use Rattle.sepcomb.specs.Growth.{set_below}
use Rattle.sepcomb.proofs.PathLemmas.{set_below_is_set}
use Rattle.sepcomb.proofs.tooth.tooth_of.Goals as goal

pub set_of-requires-clause-set : goal.set_of-requires-clause-set
set_of-requires-clause-set c =
    let cities = c.args.pair.u ∷ c.args.pair.v ∷ c.args.path.now in
    let same : c.loop-city.city ≡ c.args.n = omega arith in
    rw c.loop-city.invariant (subst (λ k. IsSet k (set_below c.loop-city.city cities)) same (set_below_is_set c.loop-city.city cities))
