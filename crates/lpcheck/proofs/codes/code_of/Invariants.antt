use Rattle.std.proofs.Common.{◌≡◌, ◌^◌, ◌<◌, drop}
use Rattle.lpcheck.specs.Rows.{cities_of_each}
use Rattle.lpcheck.specs.Codes.{code}
use Rattle.lpcheck.proofs.codes.code_of.Given as goal

abbrev pub invariant-loop-at : goal.invariant-loop-at
invariant-loop-at l = record {
  rest : code l.code (cities_of_each (drop l.at l.row.sets.items)) l.city ≡ code 0 (cities_of_each l.row.sets.items) l.city;
  small : l.code < 2 ^ l.at;
}
