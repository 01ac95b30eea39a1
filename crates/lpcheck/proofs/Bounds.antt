-- How large coefficients, prices and reduced costs can be.
use Rattle.std.proofs.Common.{ℕ, suc, ◌+◌, ◌*◌, ◌^◌, ◌<◌, ◌≤◌, Bool, true, false, cond, List, [], ◌∷◌, length, get_or, map, ℤ, pos, ◌*ℤ◌, arith}
use Rattle.std.specs.List.{All}
use Rattle.std.proofs.lemmas.Int.{ints}
use Rattle.std.proofs.lemmas.List.{length-map, get_or_default}
use Rattle.std.proofs.lemmas.List.Elements.{All-head, All-tail, All-map, All-weaker}
use Rattle.tspdef.specs.Cuts.{coefficient}
use Rattle.tspdef.specs.Sets.{has}
use Rattle.tspdef.specs.Tours.{crosses}
use Rattle.lpcheck.specs.Sizes.{IsWithin}
use Rattle.lpcheck.specs.Rows.{cities_of_each, coef, signed, price, reduced, IsSmall, IsCheap}
use Rattle.lpcheck.specs.Rests.{IsDual, AreDuals}
use Rattle.lpcheck.specs.declared.row.Sense.{Sense}
use Rattle.lpcheck.specs.declared.row.Sense.TheVariants.{Eq, AtLeast, AtMost}
use Rattle.lpcheck.specs.declared.row.Row.{Row}
use Rattle.lpcheck.specs.declared.column.Column.{Column}
use Rattle.lpcheck.proofs.Products.{product_within}

one_more : (b : Bool) (n : ℕ) → cond b 1 0 + n ≤ suc n
one_more true n = omega arith
one_more false n = omega arith

few_crossed : (sets : List (List ℕ)) (u v : ℕ) → coefficient sets u v ≤ length sets
few_crossed [] u v = omega arith
few_crossed (s ∷ ss) u v =
    let rest = few_crossed ss u v in
    let here = one_more (crosses (has s) (u, v)) (coefficient ss u v) in
    omega arith

pub coef_small : (row : Row) (u v : ℕ) → IsSmall row → coef row u v ≤ 2 ^ 12
coef_small row u v small =
    let few = few_crossed (cities_of_each row.sets.items) u v in
    let all = length-map row.sets.items (λ s. s.cities) in
    omega (arith, few, all, small)

pub signed_within : (sense : Sense) (m : ℕ) (y : ℤ) → IsWithin m y → IsWithin m (signed sense y)
signed_within Eq m y is = is
signed_within AtLeast m y is = is
signed_within AtMost m y is = record { low = omega (arith, ints); high = omega (arith, ints) }

natural_within : (k m : ℕ) → k ≤ m → IsWithin m (pos k)
natural_within k m h = record { low = omega (arith, ints); high = omega (arith, ints) }

pub price_within : (rows : List Row) (ys : List ℤ) (u v : ℕ) → All IsSmall rows → All (IsWithin (2 ^ 62)) ys → IsWithin (2 ^ 74 * length rows) (price rows ys u v)
price_within [] ys u v small sizes = record { low = omega (arith, ints); high = omega (arith, ints) }
price_within (row ∷ rows) [] u v small sizes = record { low = omega (arith, ints); high = omega (arith, ints) }
price_within (row ∷ rows) (y ∷ ys) u v small sizes =
    let own = signed_within row.sense (2 ^ 62) y (All-head (IsWithin (2 ^ 62)) y ys sizes) in
    let times = natural_within (coef row u v) (2 ^ 12) (coef_small row u v (All-head IsSmall row rows small)) in
    let here : IsWithin (2 ^ 62 * 2 ^ 12) (signed row.sense y *ℤ pos (coef row u v)) = product_within (2 ^ 62) (2 ^ 12) (signed row.sense y) (pos (coef row u v)) own times in
    let rest = price_within rows ys u v (All-tail IsSmall row rows small) (All-tail (IsWithin (2 ^ 62)) y ys sizes) in
    record { low = omega (arith, ints, here.low, rest.low); high = omega (arith, ints, here.high, rest.high) }

pub reduced_within : (rows : List Row) (ys : List ℤ) (c : Column) → All IsSmall rows → All (IsWithin (2 ^ 62)) ys → length rows ≤ 4194304 → IsCheap c → IsWithin (2 ^ 100) (reduced rows ys c)
reduced_within rows ys c small sizes few cheap =
    let p = price_within rows ys c.u c.v small sizes in
    record { low = omega (arith, ints, p.low, p.high); high = omega (arith, ints, p.low, p.high) }

pub costs_within : (rows : List Row) (ys : List ℤ) (cols : List Column) → All IsSmall rows → All (IsWithin (2 ^ 62)) ys → length rows ≤ 4194304 → All IsCheap cols → All (IsWithin (2 ^ 100)) (map (reduced rows ys) cols)
costs_within rows ys cols small sizes few cheap =
    All-map (IsWithin (2 ^ 100)) (reduced rows ys) cols (All-weaker IsCheap (λ c. IsWithin (2 ^ 100) (reduced rows ys c)) (λ c h. reduced_within rows ys c small sizes few h) cols cheap)

dual_within : (sense : Sense) (y : ℤ) → IsDual sense y → IsWithin (2 ^ 62) y
dual_within Eq y is = record { low = is.low; high = is.high }
dual_within AtLeast y is = let l = is.low in record { low = omega (arith, ints); high = is.high }
dual_within AtMost y is = let l = is.low in record { low = omega (arith, ints); high = is.high }

pub duals_within : (rows : List Row) (ys : List ℤ) → AreDuals rows ys → All (IsWithin (2 ^ 62)) ys
duals_within [] ys duals k d inside = absurd (let a = duals.all in omega (arith, inside, a))
duals_within (row ∷ rows) ys duals k d inside =
    let place : k < length (row ∷ rows) = (let a = duals.all in omega (arith, inside, a)) in
    rw (get_or_default ys k d (pos 0) (omega (arith, inside))) (dual_within (get_or (row ∷ rows) k row).sense (get_or ys k (pos 0)) (duals.each k row place))
