use Rattle.std.proofs.Common.{arith, to_z, of_z, w64}
use Rattle.std.proofs.lemmas.Int.{ints}
use Rattle.lpcheck.proofs.Sums.{pieces_more}
use Rattle.lpcheck.proofs.step.gain_of.Goals as goal

pub loop-piece-preserved : goal.loop-piece-preserved
loop-piece-preserved c =
    let more = pieces_more c.args.pieces.now c.loop-piece.piece-index c.piece-item.result (to_z w64 (of_z w64 c.args.d)) c.piece-item.is c.loop-piece-test.true in
    record { so_far = omega (arith, ints); low = omega (arith, ints); high = omega (arith, ints) }
