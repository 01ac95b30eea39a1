use Rattle.std.proofs.Common.{◌*◌, ◌≤◌, take, length}
use Rattle.cyc.specs.Marks.{AreMarksOf}
use Rattle.cyc.proofs.city_set.marks_of.Given as goal

abbrev pub invariant-loop-city : goal.invariant-loop-city
invariant-loop-city l = record {
  room : l.n ≤ 64 * length l.marks;
  marks : AreMarksOf (take l.city-index l.cities) l.marks;
}
