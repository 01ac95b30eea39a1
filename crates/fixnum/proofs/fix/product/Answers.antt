use Rattle.std.proofs.Common.{◌*◌, ◌^◌, ℤ, ◌*ℤ◌, to_z, of_z, arith}
use Rattle.std.specs.Int.{w128}
use Rattle.std.proofs.lemmas.Int.{ints}
use Rattle.fixnum.proofs.Products.{IsWithin, product_within}
use Rattle.fixnum.proofs.fix.product.Goals as goal
use Rattle.fixnum.proofs.fix.product.Goals.{After-from-2}

size : (c : After-from-2) → IsWithin (2 ^ 63 * 2 ^ 63) (to_z w128 (of_z w128 c.from.result) *ℤ to_z w128 (of_z w128 c.from-2.result))
size c =
    let a : ℤ = to_z w128 (of_z w128 c.from.result) in
    let b : ℤ = to_z w128 (of_z w128 c.from-2.result) in
    product_within (2 ^ 63) (2 ^ 63) a b (record { low = omega (arith, ints); high = omega (arith, ints) })
    (record { low = omega (arith, ints); high = omega (arith, ints) })

pub returns-clause-low : goal.returns-clause-low
returns-clause-low c = let s = size c in omega (arith, ints, s.low, s.high)

pub returns-clause-high : goal.returns-clause-high
returns-clause-high c = let s = size c in omega (arith, ints, s.low, s.high)
