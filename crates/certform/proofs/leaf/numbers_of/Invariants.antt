use Rattle.std.proofs.Common.{◌≡◌, ◌++◌, drop}
use Rattle.certform.proofs.Permuting.{numbered}
use Rattle.certform.proofs.Loops.{cuts_in}
use Rattle.certform.proofs.leaf.numbers_of.Given as goal

abbrev pub invariant-loop-cut : goal.invariant-loop-cut
invariant-loop-cut l = l.numbers.items ++ numbered (cuts_in l.cuts.keys) (drop l.cut-index l.duals) ≡ numbered (cuts_in l.cuts.keys) l.duals
