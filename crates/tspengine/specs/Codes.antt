-- Exit statuses.
use Rattle.std.specs.Prelude.{ℕ}
use Rattle.tspengine.specs.declared.statuses.Status.{Status}
use Rattle.tspengine.specs.declared.statuses.Status.TheVariants as status

abbrev pub code_of : Status → ℕ
code_of status.Optimal = 0
code_of status.Within = 10
code_of status.Verified = 0
code_of status.VerifiedWithin = 10
code_of status.Toured = 0
code_of status.Benched = 0
code_of status.Bounded = 0
code_of status.Checked = 0
code_of status.Replayed = 0
code_of status.Usage = 2
code_of status.BadInstance = 3
code_of status.BadRestart = 4
code_of status.Refused = 4
code_of status.BoundRefused = 4
code_of status.BadTape = 4
code_of status.Stopped = 5
code_of status.BenchStopped = 5
code_of status.ReadFault = 6
code_of status.WriteFault = 7
code_of status.StoreFault = 8
code_of status.NoMemory = 9
