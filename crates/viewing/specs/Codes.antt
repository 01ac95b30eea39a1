-- Exit statuses.
use Rattle.std.specs.Prelude.{ℕ}
use Rattle.verification.specs.declared.statuses.VerifyStatus.{VerifyStatus}
use Rattle.verification.specs.declared.statuses.VerifyStatus.TheVariants as verify
use Rattle.viewing.specs.declared.statuses.ViewStatus.{ViewStatus}
use Rattle.viewing.specs.declared.statuses.ViewStatus.TheVariants as status

abbrev pub code_of : ViewStatus → ℕ
code_of status.Drawn = 0
code_of status.Usage = 2
code_of status.BadInstance = 3
code_of status.Refused = 4
code_of status.ReadFault = 6
code_of status.WriteFault = 7
code_of status.NoMemory = 9

-- of an instance whose refusal was to be printed
abbrev pub view_status : VerifyStatus → ViewStatus
view_status verify.Verified = status.NoMemory
view_status verify.Within = status.NoMemory
view_status verify.Usage = status.NoMemory
view_status verify.BadInstance = status.BadInstance
view_status verify.Refused = status.NoMemory
view_status verify.ReadFault = status.NoMemory
view_status verify.WriteFault = status.WriteFault
view_status verify.NoMemory = status.NoMemory
