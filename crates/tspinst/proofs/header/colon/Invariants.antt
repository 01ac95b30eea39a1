use Rattle.std.proofs.Common.{◌≡◌, ℕ, ◌<◌, false, get_or}
use Rattle.tspinst.specs.Headers.{is_colon}
use Rattle.tspinst.proofs.header.colon.Given as goal

abbrev pub invariant-loop-i : goal.invariant-loop-i
invariant-loop-i l = (k : ℕ) → k < l.i → is_colon (get_or l.bytes k 0) ≡ false
