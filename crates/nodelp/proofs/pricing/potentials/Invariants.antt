use Rattle.std.proofs.Common.{◌^◌}
use Rattle.std.specs.List.{All}
use Rattle.lpcheck.specs.Sizes.{IsWithin}
use Rattle.nodelp.specs.Pricing.{ArePotentials}
use Rattle.nodelp.proofs.pricing.potentials.Given as goal

abbrev pub invariant-loop-v : goal.invariant-loop-v
invariant-loop-v l = record { each : ArePotentials l.v l.rows l.ys l.ps.items; size : All (IsWithin (2 ^ 100)) l.ps.items }
