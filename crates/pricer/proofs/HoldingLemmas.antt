use Rattle.std.proofs.Common.{◌≡◌, ℕ, ◌+◌, ◌*◌, Bool, cond, not, List, [], ◌∷◌, refl, ap, arith, Some, None}
use Rattle.std.specs.Prelude.{◌+ℤ◌, ◌-ℤ◌}
use Rattle.std.proofs.lemmas.Int.{ints}
use Rattle.tspdef.specs.Sets.{has}
use Rattle.tspdef.specs.Cuts.{coefficient}
use Rattle.tspdef.specs.Bounds.{Row, at_least, exactly, price}
use Rattle.pricer.specs.Prices.{holders, held}

crossed_once : (x y : Bool) → cond (cond x (not y) y) 1 0 + (cond x (cond y 1 0) 0 + cond x (cond y 1 0) 0) ≡ cond x 1 0 + cond y 1 0
crossed_once x y = grind arith

-- crossings of sets by a pair
coefficient_split : (ss : List (List ℕ)) (u v : ℕ) → coefficient ss u v + (holders (Some v) ss u + holders (Some v) ss u) ≡ holders None ss u + holders None ss v
coefficient_split [] u v = refl
coefficient_split (s ∷ ss) u v = let ih = coefficient_split ss u v in let o = crossed_once (has s u) (has s v) in let p = crossed_once (has s v) (has s u) in grind arith

-- what rows take off the cost of a pair
pub price_split : (rows : List Row) (u v : ℕ) → price rows u v ≡ held None rows u +ℤ held None rows v -ℤ held (Some v) rows u -ℤ held (Some v) rows u
price_split [] u v = refl
price_split (at_least ss r y ∷ rows) u v =
    let ih = price_split rows u v in
    let c = ap (λ k. y * k) (coefficient_split ss u v) in
    omega (arith, ints)
price_split (exactly ss r y ∷ rows) u v =
    let ih = price_split rows u v in
    let c = ap (λ k. y * k) (coefficient_split ss u v) in
    omega (arith, ints)
