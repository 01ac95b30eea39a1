use Rattle.std.proofs.Common.{◌≡◌, ◌-◌}
use Rattle.tspinst.specs.Sections.{points_from}
use Rattle.tspinst.proofs.points.read_all.Given as goal

abbrev pub invariant-loop-i : goal.invariant-loop-i
invariant-loop-i l = points_from l.n (l.n - l._i) l.points l.words ≡ points_from l.n l.n l.initial.points l.fn.words
