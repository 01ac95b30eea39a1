-- What the bytes of the instance are.
use Rattle.std.specs.Prelude.{◌≡◌, ℕ, ◌⊎◌, List}
use Rattle.ports.specs.Desk.{Told}
use Rattle.verification.specs.Transfers.{ReadsInstance, RefusesInstance}
use Rattle.verification.specs.declared.reading.Reading.{Reading}
use Rattle.verification.specs.declared.reading.Reading.TheVariants as reading
use Rattle.verification.specs.declared.reading.Unread.{Unread}
use Rattle.verification.specs.declared.reading.Unread.TheVariants as unread
use Rattle.verification.specs.declared.statuses.VerifyStatus.{VerifyStatus}
use Rattle.verification.specs.declared.statuses.VerifyStatus.TheVariants as status

-- an instance was read, or its first refusal
abbrev pub IsReadingOf : List ℕ → Reading → Told → Told → Type 0
IsReadingOf word (reading.Instance i) t u = ReadsInstance word i t u
IsReadingOf word (reading.Refused r) t u = RefusesInstance word r t u

-- a refusal is printed, or writing fails, or memory runs out
abbrev pub IsRefuseStatus : VerifyStatus → Type 0
IsRefuseStatus s = (s ≡ status.BadInstance) ⊎ (s ≡ status.WriteFault) ⊎ (s ≡ status.NoMemory)

-- the status of a reading that failed
abbrev pub unread_status : Unread → VerifyStatus
unread_status unread.Failed = status.ReadFault
unread_status unread.NoMemory = status.NoMemory
