use Rattle.std.proofs.Common.{◌≡◌, ℕ, cond, pos, ◌+ℤ◌, take}
use Rattle.tspdef.specs.Sets.{has}
use Rattle.pricer.specs.Prices.{at}
use Rattle.pricer.proofs.light.add_small_at.Given as goal

abbrev pub invariant-loop-city : goal.invariant-loop-city
invariant-loop-city l = (c : ℕ) → at l.numbers c ≡ at l.initial.numbers c +ℤ cond (has (take l.city-index l.cities) c) l.y (pos 0)
