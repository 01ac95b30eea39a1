use Rattle.std.proofs.Common.{◌≡◌, pos, length, get_or, to_z, of_z, ap, ◌<◌, arith}
use Rattle.std.specs.Int.{w128}
use Rattle.std.proofs.lemmas.Int.{ints}
use Rattle.lpcheck.specs.Rows.{term}
use Rattle.lpcheck.specs.Cells.{no_column}
use Rattle.lpcheck.proofs.Sums.{lows_more}
use Rattle.lpcheck.proofs.check.low_of.Goals as goal

pub loop-at-preserved : goal.loop-at-preserved
loop-at-preserved c =
    let at = c.loop-at.at in
    let cols = c.args.cols.now in
    let rs = c.args.rs.now in
    let in_rs : at < length rs = omega (arith, c.loop-at-test.true, c.requires.size) in
    let more = lows_more cols rs at no_column (pos 0) c.loop-at-test.true in_rs in
    let size = c.requires.sizes at (pos 0) in_rs in
    let read : to_z w128 (of_z w128 (get_or rs at (pos 0))) ≡ get_or rs at (pos 0) = omega (arith, ints, size.low, size.high) in
    let same = ap (term (get_or cols at no_column).must) read in
    record { so_far = omega (arith, ints, more, same); low = omega (arith, ints); high = omega (arith, ints) }
