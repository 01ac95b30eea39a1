use Rattle.std.proofs.Common.{◌≡◌, ℕ, ◌||◌, take}
use Rattle.tspdef.specs.Sets.{has}
use Rattle.pricer.specs.Marks.{is_marked}
use Rattle.pricer.proofs.holding.mark.Given as goal

abbrev pub invariant-loop-city : goal.invariant-loop-city
invariant-loop-city l = (c : ℕ) → is_marked l.marks c ≡ (is_marked l.initial.marks c || has (take l.city-index l.cities) c)
