-- Exit statuses.
use Rattle.std.specs.Prelude.{ℕ}
use Rattle.verification.specs.declared.statuses.VerifyStatus.{VerifyStatus}
use Rattle.verification.specs.declared.statuses.VerifyStatus.TheVariants as status

abbrev pub code_of : VerifyStatus → ℕ
code_of status.Verified = 0
code_of status.Usage = 2
code_of status.BadInstance = 3
code_of status.Refused = 4
code_of status.ReadFault = 6
code_of status.WriteFault = 7
code_of status.NoMemory = 9
code_of status.Within = 10
