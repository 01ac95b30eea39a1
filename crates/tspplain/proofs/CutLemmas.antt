-- How often two cities cross the sets of a cut, for any number of cities.
use Rattle.std.proofs.Common.{◌≡◌, ℕ, ◌+◌, ◌≤◌, Bool, cond, not, List, [], ◌∷◌, length, map, refl, arith}
use Rattle.tspdef.specs.Sets.{has}
use Rattle.tspdef.specs.Cuts.{Cut, subtour, comb, odd, pair_set, sets_of, coefficient, IsCut}
use Rattle.tspdef.proofs.SmallCuts.{cuts_are_small}

one_most : (x y : Bool) → cond (cond x (not y) y) 1 0 ≤ 1
one_most x y = grind arith

pairs_most : (ps : List (ℕ × ℕ)) (u v : ℕ) → coefficient (map pair_set ps) u v ≤ length ps
pairs_most [] u v = omega arith
pairs_most (p ∷ ps) u v = let ih = pairs_most ps u v in let o = one_most (has (pair_set p) u) (has (pair_set p) v) in omega arith

pub few_crossed : (n : ℕ) (c : Cut) (u v : ℕ) → IsCut n c → coefficient (sets_of c) u v ≤ 4096
few_crossed n (subtour m s) u v k = let o = (cuts_are_small n (subtour m s) k).crossed u v in omega arith
few_crossed n (comb m h ts) u v k = let o = (cuts_are_small n (comb m h ts) k).crossed u v in omega arith
few_crossed n (odd m h ps) u v k =
    let o = one_most (has h u) (has h v) in
    let p = pairs_most ps u v in
    let f = k.1.few in
    omega arith
