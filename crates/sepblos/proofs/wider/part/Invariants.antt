use Rattle.std.proofs.Common.{◌≡◌, length}
use Rattle.sepblos.proofs.wider.part.Given as goal

abbrev pub invariant-loop-later : goal.invariant-loop-later
invariant-loop-later l = length l.kept.items ≡ length l.teeth
