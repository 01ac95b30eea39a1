-- Products of numbers of known size.
use Rattle.std.proofs.Common.{ℕ, suc, ◌*◌, ◌≤◌, ℤ, pos, negsuc, ◌*ℤ◌, arith}
use Rattle.std.proofs.lemmas.Int.{ints}
use Rattle.std.proofs.Math.Nat.{mul-le-mul}
use Rattle.lpcheck.specs.Sizes.{IsWithin}
use Rattle.std.proofs.Math.IntN.{pos-*ℤ-pos, pos-*ℤ-negsuc, negsuc-*ℤ-pos, negsuc-*ℤ-negsuc}

pub product_within : (m k : ℕ) (a b : ℤ) → IsWithin m a → IsWithin k b → IsWithin (m * k) (a *ℤ b)
product_within m k (pos x) (pos y) in_a in_b =
    let x_small : x ≤ m = (let h = in_a.high in omega (arith, ints)) in
    let y_small : y ≤ k = (let h = in_b.high in omega (arith, ints)) in
    let size : x * y ≤ m * k = mul-le-mul x_small y_small in
    let value = pos-*ℤ-pos x y in
    record { low = omega (arith, ints); high = omega (arith, ints) }
product_within m k (pos x) (negsuc y) in_a in_b =
    let x_small : x ≤ m = (let h = in_a.high in omega (arith, ints)) in
    let y_small : suc y ≤ k = (let h = in_b.low in omega (arith, ints)) in
    let size : x * suc y ≤ m * k = mul-le-mul x_small y_small in
    let value = pos-*ℤ-negsuc x y in
    record { low = omega (arith, ints); high = omega (arith, ints) }
product_within m k (negsuc x) (pos y) in_a in_b =
    let x_small : suc x ≤ m = (let h = in_a.low in omega (arith, ints)) in
    let y_small : y ≤ k = (let h = in_b.high in omega (arith, ints)) in
    let size : suc x * y ≤ m * k = mul-le-mul x_small y_small in
    let value = negsuc-*ℤ-pos x y in
    record { low = omega (arith, ints); high = omega (arith, ints) }
product_within m k (negsuc x) (negsuc y) in_a in_b =
    let x_small : suc x ≤ m = (let h = in_a.low in omega (arith, ints)) in
    let y_small : suc y ≤ k = (let h = in_b.low in omega (arith, ints)) in
    let size : suc x * suc y ≤ m * k = mul-le-mul x_small y_small in
    let value = negsuc-*ℤ-negsuc x y in
    record { low = omega (arith, ints); high = omega (arith, ints) }
