use Rattle.std.proofs.Common.{◌≡◌, ◌-◌}
use Rattle.tspinst.specs.Sections.{passed}
use Rattle.tspinst.proofs.points.pass.Given as goal

abbrev pub invariant-loop-i : goal.invariant-loop-i
invariant-loop-i l = passed (l.count - l._i) l.words ≡ passed l.count l.fn.words
