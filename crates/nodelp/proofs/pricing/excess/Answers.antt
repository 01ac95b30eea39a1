use Rattle.std.proofs.Common.{◌≡◌, ℤ, pos, ◌*ℤ◌, ◌-ℤ◌, length, get_or, to_z, of_z, ap, ◌<◌, arith}
use Rattle.std.specs.Int.{w128}
use Rattle.std.proofs.lemmas.Int.{ints}
use Rattle.lpcheck.specs.Rows.{cities_of_each, signed}
use Rattle.nodelp.specs.Potentials.{holders, weight}
use Rattle.nodelp.proofs.HoldingLemmas.{excess_more}
use Rattle.nodelp.proofs.pricing.excess.Goals as goal

pub loop-at-preserved : goal.loop-at-preserved
loop-at-preserved c =
    let at = c.loop-at.at in
    let ys = c.args.ys.now in
    let row = c.index-rows-at.result in
    let in_ys : at < length ys = omega (arith, c.loop-at-test.true, c.requires.size) in
    let more = excess_more c.args.rows.now ys at row (pos 0) c.args.v c.index-rows-at.is c.loop-at-test.true in_ys in
    let size = c.requires.sizes at (pos 0) in_ys in
    let read : to_z w128 (of_z w128 (get_or ys at (pos 0))) ≡ get_or ys at (pos 0) = omega (arith, ints, size.low, size.high) in
    let same = ap (λ (y : ℤ). (weight row y -ℤ signed row.sense y) *ℤ pos (holders (cities_of_each row.sets.items) c.args.v)) read in
    record { so_far = omega (arith, ints, more, same); low = omega (arith, ints); high = omega (arith, ints) }
