use Rattle.std.proofs.Common.{◌≡◌, ◌<◌, ℕ, true}
use Rattle.tspdef.specs.Paths.{is_decided}
use Rattle.pricing_cases.proofs.tests.decides_all.Given as goal

abbrev pub invariant-loop-v : goal.invariant-loop-v
invariant-loop-v l = (u w : ℕ) → u < w → w < l.v → is_decided l.path.conditions u w ≡ true
