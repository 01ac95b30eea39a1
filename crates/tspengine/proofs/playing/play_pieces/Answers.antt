use Rattle.std.proofs.Common.{arith}
use Rattle.tspengine.proofs.Plays.{on_way_on, less_left, played_so}
use Rattle.tspengine.proofs.playing.play_pieces.Goals as goal

pub pieces-smaller : goal.pieces-smaller
pieces-smaller g c = less_left c.args.boss c.pieces.tape c.in-On.next _ _ _ c.pieces.invariant.way c.in-On.ensures.turn

pub pieces-preserved : goal.pieces-preserved
pieces-preserved g c =
    let reads = c.in-On.ensures.reads.later in
    let writes = c.in-On.ensures.writes.later in
    let more_reads = c.pieces.invariant.reads in
    let more_writes = c.pieces.invariant.writes in
    let room = c.pieces.invariant.room in
    record {
      room = omega (arith, room, c.play_piece.auto.block);
      way = on_way_on c.args.boss c.pieces.tape c.in-On.next _ _ _ c.pieces.invariant.way c.in-On.ensures.turn;
      reads = omega arith;
      writes = omega arith;
    }

pub returns-in-Ended-clause-ends : goal.returns-in-Ended-clause-ends
returns-in-Ended-clause-ends g c = played_so c.args.boss c.pieces.tape c.in-Ended.status _ _ _ c.pieces.invariant.way c.in-Ended.ensures.turn

pub returns-in-Ended-clause-status : goal.returns-in-Ended-clause-status
returns-in-Ended-clause-status g c = c.in-Ended.ensures.status
