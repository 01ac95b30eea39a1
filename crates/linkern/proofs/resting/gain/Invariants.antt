use Rattle.std.proofs.Common.{◌≡◌, ◌<◌, ℕ, true}
use Rattle.tspdef.specs.Sets.{has}
use Rattle.neigh.specs.Near.{near_to}
use Rattle.linkern.specs.Exchanges.{IsPairAtRest}
use Rattle.linkern.proofs.resting.gain.Given as goal

abbrev pub invariant-loop-a : goal.invariant-loop-a
invariant-loop-a l = (b : ℕ) → b < l.a → (c : ℕ) → has (near_to l.near b) c ≡ true → IsPairAtRest l.instance l.tour b c
