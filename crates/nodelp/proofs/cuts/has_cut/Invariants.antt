use Rattle.std.proofs.Common.{◌≡◌, length}
use Rattle.nodelp.specs.Cuts.{is_listed}
use Rattle.nodelp.proofs.cuts.has_cut.Given as goal

abbrev pub invariant-loop-q : goal.invariant-loop-q
invariant-loop-q l = is_listed l.rest l.cut ≡ is_listed l.cuts l.cut

abbrev pub decreases-loop-q : goal.decreases-loop-q
decreases-loop-q l = length l.rest
