-- Which status a verifier's status is.
use Rattle.verification.specs.declared.statuses.VerifyStatus.{VerifyStatus}
use Rattle.verification.specs.declared.statuses.VerifyStatus.TheVariants as checked
use Rattle.tspengine.specs.declared.statuses.Status.{Status}
use Rattle.tspengine.specs.declared.statuses.Status.TheVariants as status

-- the status of a run that ends as the verifier does
abbrev pub status_of : VerifyStatus → Status
status_of checked.Verified = status.Verified
status_of checked.Within = status.VerifiedWithin
status_of checked.Usage = status.Usage
status_of checked.BadInstance = status.BadInstance
status_of checked.Refused = status.Refused
status_of checked.ReadFault = status.ReadFault
status_of checked.WriteFault = status.WriteFault
status_of checked.NoMemory = status.NoMemory
