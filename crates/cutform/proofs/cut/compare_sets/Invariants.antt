use Rattle.std.proofs.Common.{◌≡◌, drop}
use Rattle.std.specs.Ordering.{nat_cmp}
use Rattle.std.specs.Cmp.Lexicographic.{slice_cmp}
use Rattle.cutform.specs.Cut.{cities_of_each}
use Rattle.cutform.proofs.cut.compare_sets.Given as goal

abbrev pub invariant-loop-i : goal.invariant-loop-i
invariant-loop-i l = slice_cmp (slice_cmp nat_cmp) (cities_of_each (drop l.i l.a)) (cities_of_each (drop l.i l.b)) ≡ slice_cmp (slice_cmp nat_cmp) (cities_of_each l.a) (cities_of_each l.b)
