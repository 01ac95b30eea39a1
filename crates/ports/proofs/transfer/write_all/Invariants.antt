use Rattle.std.proofs.Common.{◌≡◌, ◌≤◌, ◌-◌, take, length}
use Rattle.ports.specs.Outside.{BothTell}
use Rattle.ports.specs.Desk.{Adds}
use Rattle.ports.proofs.transfer.write_all.Given as goal

abbrev pub invariant-loop-done : goal.invariant-loop-done
invariant-loop-done g l = let told = g.D.Desk.told in record {
  within : l.done ≤ length l.piece;
  so_far : BothTell (Adds l.to (take l.done l.piece)) (told l.fn.desk) (told l.desk);
  writes : g.D.Desk.write_faults l.fn.desk ≤ g.D.Desk.write_faults l.desk;
  reads : g.D.Desk.read_faults l.desk ≡ g.D.Desk.read_faults l.fn.desk;
}

abbrev pub decreases-loop-done : goal.decreases-loop-done
decreases-loop-done g l = length l.piece - l.done
