use Rattle.std.proofs.Common.{◌≡◌, take}
use Rattle.simplex.proofs.made.wide.Given as goal

abbrev pub invariant-loop-at : goal.invariant-loop-at
invariant-loop-at l = l.zs.items ≡ take l.at l.ys
