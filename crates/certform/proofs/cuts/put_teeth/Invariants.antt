use Rattle.std.proofs.Common.{◌≡◌, ◌++◌, map, drop}
use Rattle.cutform.specs.Cut.{cities_of_each}
use Rattle.certdef.specs.Items.{tooth_line}
use Rattle.certform.specs.Written.{from_one}
use Rattle.certform.specs.Lines.{said}
use Rattle.certform.proofs.cuts.put_teeth.Given as goal

abbrev pub invariant-loop-tooth : goal.invariant-loop-tooth
invariant-loop-tooth l =
    l.out.items ++ said (map tooth_line (map from_one (cities_of_each (drop l.tooth-index l.teeth)))) ≡ l.initial.out.items ++ said (map tooth_line (map from_one (cities_of_each l.teeth)))
