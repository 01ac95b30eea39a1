use Rattle.std.proofs.Common.{◌≡◌, ℤ, pos, ◌*ℤ◌, length, get_or, to_z, of_z, w64, ap, ◌<◌, arith}
use Rattle.std.proofs.lemmas.Int.{ints}
use Rattle.lpcheck.specs.Rows.{signed}
use Rattle.lpcheck.proofs.Sums.{worth_more}
use Rattle.lpcheck.proofs.check.worth_of.Goals as goal

pub loop-at-preserved : goal.loop-at-preserved
loop-at-preserved c =
    let at = c.loop-at.at in
    let ys = c.args.ys.now in
    let row = c.index-rows-at.result in
    let in_ys : at < length ys = omega (arith, c.loop-at-test.true, c.requires.size) in
    let more = worth_more c.args.rows.now ys at row (pos 0) c.index-rows-at.is c.loop-at-test.true in_ys in
    let size = c.requires.sizes at (pos 0) in_ys in
    let read : to_z w64 (of_z w64 (get_or ys at (pos 0))) ≡ get_or ys at (pos 0) = omega (arith, ints, size.low, size.high) in
    let same = ap (λ (y : ℤ). signed row.sense y *ℤ pos row.rhs) read in
    record { so_far = omega (arith, ints, more, same); low = omega (arith, ints); high = omega (arith, ints) }
