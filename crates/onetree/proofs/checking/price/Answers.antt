use Rattle.std.proofs.Common.{refl, arith}
use Rattle.std.proofs.lemmas.Int.{ints}
use Rattle.onetree.proofs.checking.price.Goals as goal

pub returns-then-value-from : goal.returns-then-value-from
returns-then-value-from c = let v = c.in_ok-value.ensures in let s = v.size in let f = c.from.ensures in (refl, refl, (c.in_ok-value.value, v.value, omega (arith, ints)))

pub returns-else-value-from : goal.returns-else-value-from
returns-else-value-from c = let v = c.in_ok-value.ensures in let s = v.size in let f = c.from.ensures in (refl, (c.in_ok-value.value, v.value, omega (arith, ints)))
