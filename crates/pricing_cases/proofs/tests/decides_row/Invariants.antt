use Rattle.std.proofs.Common.{◌≡◌, ◌<◌, ℕ, true}
use Rattle.tspdef.specs.Paths.{is_decided}
use Rattle.pricing_cases.proofs.tests.decides_row.Given as goal

abbrev pub invariant-loop-u : goal.invariant-loop-u
invariant-loop-u l = (w : ℕ) → w < l.u → is_decided l.path.conditions w l.v ≡ true
