use Rattle.std.proofs.Common.{◌≡◌, ℕ, ◌<◌, take}
use Rattle.tspdef.specs.Sets.{has}
use Rattle.tspplain.specs.Bits.{in_bits}
use Rattle.tspplain.proofs.bits.bits_of.Given as goal

abbrev pub invariant-loop-city : goal.invariant-loop-city
invariant-loop-city l = (city : ℕ) → city < 32 → in_bits l.all city ≡ has (take l.city-index l.city-items) city
