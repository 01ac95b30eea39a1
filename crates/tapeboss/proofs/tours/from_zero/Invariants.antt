use Rattle.std.proofs.Common.{◌≡◌, ◌↔◌, take, drop}
use Rattle.certdef.specs.Accepted.{from_zero}
use Rattle.certtests.specs.Places.{AreFromOne}
use Rattle.tapeboss.proofs.tours.from_zero.Given as goal

abbrev pub invariant-loop-city : goal.invariant-loop-city
invariant-loop-city l = record {
  numbers : l.numbers.items ≡ from_zero (take l.city-index l.cities);
  rest : AreFromOne l.n l.cities ↔ AreFromOne l.n (drop l.city-index l.cities);
}
