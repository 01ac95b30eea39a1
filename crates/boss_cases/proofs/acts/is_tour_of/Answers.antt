use Rattle.std.proofs.Common.{arith, ◌≡◌, length}
use Rattle.bossx.proofs.Offering.{tour_of}
use Rattle.boss_cases.proofs.acts.is_tour_of.Goals as goal

pub returns-in-None : goal.returns-in-None
returns-in-None c =
    let t = c.args.tour.now in
    let i = c.args.instance.now in
    let n : length t ≡ i.n = omega arith in
    λ _. tour_of i t c.cities.result.now c.fixed.result.now c.cities.ensures.value c.fixed.ensures n c.cities.ensures.whole c.in-None.ensures
