use Rattle.std.proofs.Common.{◌≡◌, ◌-◌, length}
use Rattle.tsplex.specs.Text.{tokens}
use Rattle.tspinst.specs.Texts.{lines, nothing_said}
use Rattle.tspinst.specs.Views.{said_of}
use Rattle.tspinst.proofs.reading.State.read.Given as goal

abbrev pub invariant-loop-i : goal.invariant-loop-i
invariant-loop-i l = lines (length l.bytes - l._i) (said_of l.state) l.words ≡ lines (length l.bytes) nothing_said (tokens l.bytes)
