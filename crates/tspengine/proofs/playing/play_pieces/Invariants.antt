use Rattle.std.proofs.Common.{◌<◌, ◌≤◌, ◌-◌, length}
use Rattle.tapeboss.specs.Tapes.{most_bytes}
use Rattle.tspengine.proofs.Plays.{IsOnWay}
use Rattle.tspengine.proofs.playing.play_pieces.Given as goal

abbrev pub invariant-pieces : goal.invariant-pieces
invariant-pieces g l = let told = g.D.Desk.told in record {
  room : 0 < length l.block;
  way : IsOnWay l.fn.boss l.tape (told l.fn.desk) (told l.desk);
  reads : g.D.Desk.read_faults l.fn.desk ≤ g.D.Desk.read_faults l.desk;
  writes : g.D.Desk.write_faults l.fn.desk ≤ g.D.Desk.write_faults l.desk;
}

abbrev pub decreases-pieces : goal.decreases-pieces
decreases-pieces g l = most_bytes - l.tape.read
