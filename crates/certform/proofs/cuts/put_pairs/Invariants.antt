use Rattle.std.proofs.Common.{◌≡◌, ◌++◌, map, drop}
use Rattle.certdef.specs.Proofs.{pair_item}
use Rattle.certform.specs.Written.{pair_from_one}
use Rattle.certform.specs.Lines.{said}
use Rattle.certform.proofs.cuts.put_pairs.Given as goal

abbrev pub invariant-loop-u : goal.invariant-loop-u
invariant-loop-u l =
    l.out.items ++ said (map pair_item (map pair_from_one (drop l.u-index l.pairs))) ≡ l.initial.out.items ++ said (map pair_item (map pair_from_one l.pairs))
