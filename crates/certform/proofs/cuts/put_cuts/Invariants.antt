use Rattle.std.proofs.Common.{◌≡◌, ◌++◌, drop}
use Rattle.std.specs.List.{flat_map}
use Rattle.certform.specs.Lines.{said, cut_items}
use Rattle.certform.proofs.Loops.{cuts_in}
use Rattle.certform.proofs.cuts.put_cuts.Given as goal

abbrev pub invariant-loop-cut : goal.invariant-loop-cut
invariant-loop-cut l = l.out.items ++ said (flat_map cut_items (cuts_in (drop l.cut-index l.cut-items))) ≡ l.initial.out.items ++ said (flat_map cut_items (cuts_in l.cut-items))
