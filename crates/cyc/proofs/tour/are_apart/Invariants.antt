use Rattle.std.proofs.Common.{◌*◌, ◌≤◌, take, length}
use Rattle.cyc.specs.Tour.{AreApart}
use Rattle.cyc.specs.Marks.{AreMarksOf}
use Rattle.cyc.proofs.tour.are_apart.Given as goal

abbrev pub invariant-loop-city : goal.invariant-loop-city
invariant-loop-city l = record {
  room : l.n ≤ 64 * length l.seen;
  marks : AreMarksOf (take l.city-index l.cities) l.seen;
  apart : AreApart l.n (take l.city-index l.cities);
}
