use Rattle.std.proofs.Common.{◌≡◌, take}
use Rattle.nodelp.specs.Duals.{cut_duals}
use Rattle.nodelp.proofs.closing.cut_duals.Given as goal

abbrev pub invariant-loop-cut : goal.invariant-loop-cut
invariant-loop-cut l = l.duals.items ≡ cut_duals l.ys (take l.cut-index l.cuts)
