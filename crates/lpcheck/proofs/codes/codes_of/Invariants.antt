use Rattle.std.proofs.Common.{◌≡◌, length}
use Rattle.lpcheck.specs.Codes.{AreCodes}
use Rattle.lpcheck.proofs.codes.codes_of.Given as goal

abbrev pub invariant-loop-city : goal.invariant-loop-city
invariant-loop-city l = record {
  codes : AreCodes l.row l.codes.items;
  size : length l.codes.items ≡ l.city;
}
