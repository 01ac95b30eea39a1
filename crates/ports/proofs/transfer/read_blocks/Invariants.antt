use Rattle.std.proofs.Common.{◌≡◌, ◌≤◌, ◌-◌, ◌+◌, vec_len}
use Rattle.ports.specs.Outside.{BothTell}
use Rattle.ports.specs.Desk.{Takes}
use Rattle.ports.proofs.transfer.read_blocks.Given as goal

abbrev pub invariant-until_end : goal.invariant-until_end
invariant-until_end g l = let told = g.D.Desk.told in record {
  so_far : BothTell (Takes l.from l.bytes.items) (told l.fn.desk) (told l.desk);
  reads : g.D.Desk.read_faults l.fn.desk ≤ g.D.Desk.read_faults l.desk;
  writes : g.D.Desk.write_faults l.desk ≡ g.D.Desk.write_faults l.fn.desk;
  short : vec_len l.bytes ≤ l.limit + 1;
}

abbrev pub decreases-until_end : goal.decreases-until_end
decreases-until_end g l = l.limit + 1 - vec_len l.bytes
