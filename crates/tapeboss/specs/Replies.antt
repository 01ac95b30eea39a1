-- The lines that are answered. Cities count from 1, and each line ends with one LF.
use Rattle.std.specs.Prelude.{ℕ, ◌+◌, List, ◌++◌, codes, decimal, Option, Some, None, ℤ}
use Rattle.std.specs.Fmt.{signed_decimal}
use Rattle.bossx.specs.declared.events.Reply.{Reply}
use Rattle.bossx.specs.declared.events.Reply.TheVariants as replies
use Rattle.bossx.specs.declared.replies.Asked.{Asked}
use Rattle.bossx.specs.declared.replies.Asked.TheVariants as asked
use Rattle.bossx.specs.declared.replies.Reported.{Reported}
use Rattle.bossx.specs.declared.replies.Reported.TheVariants as reported
use Rattle.bossx.specs.declared.replies.Expiry.{Expiry}
use Rattle.bossx.specs.declared.replies.Expiry.TheVariants as expiry
use Rattle.bossx.specs.declared.replies.Offered.{Offered}
use Rattle.bossx.specs.declared.replies.Offered.TheVariants as offered

abbrev pub leased_line : ℕ → ℕ → ℕ → List ℕ
leased_line lease node best = codes "LEASED " ++ decimal lease ++ codes " " ++ decimal node ++ codes " " ++ decimal best ++ codes "\n"

abbrev pub weak_line : ℤ → ℤ → List ℕ
weak_line bound needed = codes "WEAK " ++ signed_decimal bound ++ codes " " ++ signed_decimal needed ++ codes "\n"

abbrev pub off_fixed_line : ℕ → ℕ → List ℕ
off_fixed_line u v = codes "OFFFIXED " ++ decimal u ++ codes " " ++ decimal v ++ codes "\n"

abbrev pub asked_line : Asked → List ℕ
asked_line asked.Done = codes "DONE\n"
asked_line asked.Spent = codes "SPENT\n"
asked_line asked.Home = codes "HOME\n"
asked_line asked.NotYet = codes "NOTYET\n"
asked_line (asked.Leased lease node best) = leased_line lease node best

abbrev pub reported_line : Reported → List ℕ
reported_line reported.Unknown = codes "UNKNOWN\n"
reported_line reported.Stale = codes "STALE\n"
reported_line reported.Spent = codes "SPENT\n"
reported_line (reported.Misfit k) = codes "MISFIT " ++ decimal k ++ codes "\n"
reported_line (reported.Weak bound needed) = weak_line bound needed
reported_line reported.Taken = codes "TAKEN\n"

abbrev pub gone_line : Option ℕ → List ℕ
gone_line None = codes "NONE\n"
gone_line (Some lease) = codes "LOST " ++ decimal lease ++ codes "\n"

abbrev pub expiry_line : Expiry → List ℕ
expiry_line expiry.Unknown = codes "UNKNOWN\n"
expiry_line expiry.NotHeld = codes "NOTHELD\n"
expiry_line expiry.Expired = codes "EXPIRED\n"

-- a tour of another number of cities is no frame of a tape, but an answer
abbrev pub offered_line : Offered → List ℕ
offered_line offered.OtherSize = codes "OTHERSIZE\n"
offered_line (offered.OffFixed u v) = off_fixed_line (u + 1) (v + 1)
offered_line (offered.NotShorter l) = codes "NOTSHORTER " ++ decimal l ++ codes "\n"
offered_line offered.Better = codes "BETTER\n"

-- the line of a reply
abbrev pub reply_line : Reply → List ℕ
reply_line (replies.Asked a) = asked_line a
reply_line (replies.Reported a) = reported_line a
reply_line (replies.Went a) = gone_line a
reply_line (replies.Expired a) = expiry_line a
reply_line (replies.Offered a) = offered_line a

-- at the end of a tape: how many nodes were settled, how many are open, and the best tour's length
abbrev pub end_line : ℕ → ℕ → ℕ → List ℕ
end_line settled open_nodes best = codes "END " ++ decimal settled ++ codes " " ++ decimal open_nodes ++ codes " " ++ decimal best ++ codes "\n"

-- the number of a fault, and that of its frame
abbrev pub fault_line : ℕ → ℕ → List ℕ
fault_line fault frame = codes "FRAME " ++ decimal fault ++ codes " " ++ decimal frame ++ codes "\n"
