use Rattle.std.proofs.Common.{arith}
use Rattle.tspdef.specs.Sets.{has}
use Rattle.cyc.proofs.Turns.{turns_at_home}
use Rattle.cyc.proofs.tour.count_crossings.Goals as goal

pub loop-city-init : goal.loop-city-init
loop-city-init c = record {
  bound = omega arith;
  rest = turns_at_home (has c.args.set.now.cities) c.args.cities.now c.contains-home.result c.requires.some c.contains-home.ensures;
}
