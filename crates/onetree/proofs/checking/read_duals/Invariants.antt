use Rattle.std.proofs.Common.{◌≡◌, ℕ, ◌+◌, ◌++◌, List, length, map}
use Rattle.std.specs.Prelude.{ℤ}
use Rattle.certdef.specs.Proofs.{city_item}
use Rattle.certdef.specs.Accepted.{duals_from}
use Rattle.onetree.specs.Certificates.{said, AreRising}
use Rattle.onetree.specs.Readings.{next_city}
use Rattle.onetree.proofs.checking.read_duals.Given as goal

-- the duals that were read so far
abbrev pub invariant-loop-rest : goal.invariant-loop-rest
invariant-loop-rest l = record {
  ps : List (ℕ × ℤ);
  so_far : l.text ≡ said (map city_item ps) ++ l.rest;
  rising : AreRising l.n ps;
  last : next_city 1 ps ≡ l.last + 1;
  place : l.line ≡ length ps + 4;
  duals : l.duals.items ≡ duals_from ps 1 l.n;
}

abbrev pub decreases-loop-rest : goal.decreases-loop-rest
decreases-loop-rest l = length l.rest
