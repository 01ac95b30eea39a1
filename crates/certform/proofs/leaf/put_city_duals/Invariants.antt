use Rattle.std.proofs.Common.{◌≡◌, ◌+◌, ◌++◌, map, drop}
use Rattle.certdef.specs.Proofs.{city_item}
use Rattle.certform.specs.Written.{written_cities}
use Rattle.certform.specs.Lines.{said}
use Rattle.certform.proofs.leaf.put_city_duals.Given as goal

abbrev pub invariant-loop-place : goal.invariant-loop-place
invariant-loop-place l = l.out.items ++ said (map city_item (written_cities (l.place + 1) (drop l.place l.duals))) ≡ l.initial.out.items ++ said (map city_item (written_cities 1 l.duals))
