use Rattle.std.proofs.Common.{◌≡◌, ◌≤◌, ◌-◌, ◌+◌, ◌^◌, List, ℕ}
use Rattle.ports.specs.Outside.{BothTell}
use Rattle.ports.specs.Desk.{Takes}
use Rattle.ports.specs.declared.desk.Inlet.TheVariants as inlet
use Rattle.certdef.specs.Tests.{verifier}
use Rattle.certdef.specs.Bytes.{start, reads, bytes_on}
use Rattle.certcheck.proofs.checking.read_through.Given as goal

-- the bytes that were read lead here
abbrev pub invariant-loop-checker : goal.invariant-loop-checker
invariant-loop-checker g l = let told = g.D.Desk.told in record {
  bytes : List ℕ;
  instance : l.checker.instance ≡ l.fn.checker.instance;
  leads : bytes_on (verifier l.fn.checker.instance) (reads start) bytes ≡ reads l.checker.reading;
  takes : BothTell (Takes inlet.Proof bytes) (told l.fn.desk) (told l.desk);
  reads_faults : g.D.Desk.read_faults l.fn.desk ≤ g.D.Desk.read_faults l.desk;
  writes : g.D.Desk.write_faults l.desk ≡ g.D.Desk.write_faults l.fn.desk;
}

abbrev pub decreases-loop-checker : goal.decreases-loop-checker
decreases-loop-checker g l = (2 ^ 60 + 1) - l.checker.reading.read
