use Rattle.std.proofs.Common.{◌≡◌, ℕ, ◌+◌, ◌<◌, List, length, get_or, subst, arith}
use Rattle.std.proofs.lemmas.List.Sums.{sum_by_more, sum_by-take-le}
use Rattle.tspdef.specs.Sets.{has}
use Rattle.cutpool.specs.Nears.{row_weight}
use Rattle.cutpool.proofs.RowLemmas.{row_read}
use Rattle.cutpool.proofs.violated.without_set.Goals as goal

pub returns-in-None : goal.returns-in-None
returns-in-None c =
    let set = c.args.set.now.cities in
    let i = c.loop-city.city-index in
    let within = subst (λ (xs : List ℕ). i < length xs) c.cities-city-items.ensures.value c.loop-city-test.true in
    let more = sum_by_more (λ city. row_weight c.args.rows.now city (has set)) set i 0 within in
    let all = sum_by-take-le (λ city. row_weight c.args.rows.now city (has set)) set (i + 1) in
    let here = subst (λ (xs : List ℕ). get_or xs i 0 < length c.args.rows.now) c.cities-city-items.ensures.value c.in-Some.ensures.lookup.3.0 in
    let is = subst (λ (xs : List ℕ). c.in-Some.row.now ≡ get_or c.args.rows.now (get_or xs i 0) c.in-Some.row.now) c.cities-city-items.ensures.value c.in-Some.ensures.lookup.1 in
    let row = row_read c.args.rows.now (get_or set i 0) c.in-Some.row.now (has set) here is in
    omega (arith, more, all, row, c.in-None.ensures, c.loop-city.invariant)
