use Rattle.std.proofs.Common.{◌≡◌, ◌++◌, map, take, pos}
use Rattle.std.specs.Prelude.{replicate}
use Rattle.pricer.specs.Rounds.{clamped}
use Rattle.pricer.proofs.rounding.round_cities.Given as goal

abbrev pub invariant-loop-i : goal.invariant-loop-i
invariant-loop-i l = l.duals.items ≡ take l.i (map clamped l.city ++ replicate l.n (pos 0))
