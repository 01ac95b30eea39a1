use Rattle.std.proofs.Common.{◌≡◌, drop}
use Rattle.certcheck.specs.Purposes.{tests_by}
use Rattle.certdef.specs.Bytes.{reads, bytes_on}
use Rattle.certcheck.specs.Stages.{Stands}
use Rattle.certcheck.specs.Readings.{reading_of}
use Rattle.certcheck.proofs.SayLemmas.{Saying}
use Rattle.certcheck.proofs.reading.Reading.one_by_one.Given as goal

-- the bytes that are left lead where all of them do
abbrev pub invariant-loop-byte : goal.invariant-loop-byte
invariant-loop-byte l =
    (bytes_on (tests_by l.self.progress.purpose l.instance) (reads (reading_of l.self)) (drop l.byte-index l.bytes) ≡ bytes_on (tests_by l.fn.self.progress.purpose l.instance) (reads (reading_of l.fn.self)) l.bytes)
    × Stands l.instance.n l.self.progress
    × (l.self.progress.purpose ≡ l.fn.self.progress.purpose)
    × Saying (tests_by l.fn.self.progress.purpose l.instance) l.fn.self l.bytes l.self (drop l.byte-index l.bytes)
