use Rattle.std.proofs.Common.{◌≡◌, map, take}
use Rattle.certdef.specs.Accepted as defs
use Rattle.tapeboss.proofs.closings.named_cuts.Given as goal

abbrev pub invariant-loop-number : goal.invariant-loop-number
invariant-loop-number l = l.named.items ≡ map (λ q. (defs.cut_at l.cuts q.0, q.1)) (take l.number-index l.duals)
