use Rattle.std.proofs.Common.{◌≡◌, ℕ, ◌^◌, ◌≤◌, List, ◌∙◌, ap, sym, arith, Some, None}
use Rattle.std.specs.Prelude.{ℤ, pos, ◌+ℤ◌}
use Rattle.std.specs.Int.{int_min}
use Rattle.std.proofs.lemmas.Int.{ints}
use Rattle.tspdef.specs.Instances.{Instance, dist}
use Rattle.tspdef.specs.Paths.{Condition}
use Rattle.tspdef.specs.Closings.{Closing, IsClosing}
use Rattle.tspdef.specs.Sums.{sum_below}
use Rattle.tspdef.specs.Bounds.{cut_rows, condition_rows, reduced_cost}
use Rattle.tspdef.proofs.SumLemmas.{sum_below-same}
use Rattle.tspdef.proofs.Duality.{dist-sym}
use Rattle.pricer.specs.Sizes.{IsWithin}
use Rattle.pricer.specs.Prices.{held, price_of, shared_by, cost_of, at}
use Rattle.pricer.proofs.HoldingLemmas.{price_split}
use Rattle.pricer.proofs.SizeLemmas.{city_size}
use Rattle.pricer.proofs.SpreadLemmas.{held_cuts_size, held_conds_size}

-- a reduced cost by the prices of the cities
reduced_split : (i : Instance) (path : List Condition) (c : Closing) (u v : ℕ) → cost_of (dist i v u) (price_of path c v) (price_of path c u) (shared_by path c v u) ≡ reduced_cost i path c u v
reduced_split i path c u v =
    let cuts = price_split (cut_rows c.cuts) u v in
    let conds = price_split (condition_rows path c.conds) u v in
    let d = dist-sym i v u in
    rw d (omega (arith, ints))

pub price_size : (i : Instance) (path : List Condition) (c : Closing) (k : ℕ) → i.n ≤ 2000 → IsClosing i.n path c → IsWithin (2 ^ 100) (price_of path c k)
price_size i path c k few is =
    let city = city_size i.n path c k is in
    let cuts = held_cuts_size i.n c.cuts None k few is.cuts is.sizes.cuts in
    let conds = held_conds_size path c.conds None k is.sizes.conds in
    let some = is.counts.cuts in
    let more = is.counts.conds in
    record { low = omega (arith, ints); high = omega (arith, ints) }

pub shared_size : (i : Instance) (path : List Condition) (c : Closing) (v k : ℕ) → i.n ≤ 2000 → IsClosing i.n path c → IsWithin (2 ^ 100) (shared_by path c v k)
shared_size i path c v k few is =
    let cuts = held_cuts_size i.n c.cuts (Some v) k few is.cuts is.sizes.cuts in
    let conds = held_conds_size path c.conds (Some v) k is.sizes.conds in
    let some = is.counts.cuts in
    let more = is.counts.conds in
    record { low = omega (arith, ints); high = omega (arith, ints) }

-- prices before the duals of conditions are added
pub half_size : (i : Instance) (path : List Condition) (c : Closing) (x : ℤ) (h : _) (k : ℕ) → i.n ≤ 2000 → IsClosing i.n path c → IsWithin (2 ^ 62) x → IsWithin (2 ^ 97) (x +ℤ held h (cut_rows c.cuts) k)
half_size i path c x h k few is size =
    let cuts = held_cuts_size i.n c.cuts h k few is.cuts is.sizes.cuts in
    let some = is.counts.cuts in
    record { low = omega (arith, ints); high = omega (arith, ints) }

-- the row of a city
pub row_sum : (i : Instance) (path : List Condition) (c : Closing) (price own : List ℤ) (v : ℕ)
    → ((k : ℕ) → at price k ≡ price_of path c k) → ((k : ℕ) → at own k ≡ shared_by path c v k)
    → sum_below (λ u. int_min (pos 0) (cost_of (dist i v u) (at price v) (at price u) (at own u))) v ≡ sum_below (λ u. int_min (pos 0) (reduced_cost i path c u v)) v
row_sum i path c price own v p s = sum_below-same _ _ v (λ u l. ap (int_min (pos 0)) (
    ap (λ (x : ℤ). cost_of (dist i v u) x (at price u) (at own u)) (p v)
    ∙ ap (λ (x : ℤ). cost_of (dist i v u) (price_of path c v) x (at own u)) (p u)
    ∙ ap (λ (x : ℤ). cost_of (dist i v u) (price_of path c v) (price_of path c u) x) (s u)
    ∙ reduced_split i path c u v))

-- the row of a city that no set holds
pub bare_row_sum : (i : Instance) (path : List Condition) (c : Closing) (price : List ℤ) (v : ℕ)
    → ((k : ℕ) → at price k ≡ price_of path c k) → ((k : ℕ) → shared_by path c v k ≡ pos 0)
    → sum_below (λ u. int_min (pos 0) (cost_of (dist i v u) (at price v) (at price u) (pos 0))) v ≡ sum_below (λ u. int_min (pos 0) (reduced_cost i path c u v)) v
bare_row_sum i path c price v p s = sum_below-same _ _ v (λ u l. ap (int_min (pos 0)) (
    ap (λ (x : ℤ). cost_of (dist i v u) x (at price u) (pos 0)) (p v)
    ∙ ap (λ (x : ℤ). cost_of (dist i v u) (price_of path c v) x (pos 0)) (p u)
    ∙ ap (λ (x : ℤ). cost_of (dist i v u) (price_of path c v) (price_of path c u) x) (sym (s u))
    ∙ reduced_split i path c u v))
