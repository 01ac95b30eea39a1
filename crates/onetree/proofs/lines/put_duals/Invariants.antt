use Rattle.std.proofs.Common.{◌≡◌, ◌+◌, ◌++◌, map, drop}
use Rattle.certdef.specs.Proofs.{city_item}
use Rattle.onetree.specs.Certificates.{said, written_duals}
use Rattle.onetree.proofs.lines.put_duals.Given as goal

abbrev pub invariant-loop-place : goal.invariant-loop-place
invariant-loop-place l = l.out.items ++ said (map city_item (written_duals (l.place + 1) (drop l.place l.duals))) ≡ l.initial.out.items ++ said (map city_item (written_duals 1 l.duals))
