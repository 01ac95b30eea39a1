use Rattle.std.proofs.Common.{◌≡◌, drop}
use Rattle.certform.specs.Written.{with_cuts}
use Rattle.certform.proofs.Loops.{cuts_in}
use Rattle.certform.proofs.cuts.add_cuts.Given as goal

abbrev pub invariant-loop-cut : goal.invariant-loop-cut
invariant-loop-cut l = with_cuts (cuts_in l.cuts.keys) (drop l.cut-index l.more) ≡ with_cuts (cuts_in l.initial.cuts.keys) l.more
