use Rattle.std.proofs.Common.{◌≡◌, length}
use Rattle.certcheck.specs.Purposes.{tests_by}
use Rattle.certdef.specs.Bytes.{reads, bytes_on}
use Rattle.certcheck.specs.Stages.{Stands}
use Rattle.certcheck.specs.Readings.{reading_of}
use Rattle.certcheck.proofs.SayLemmas.{Saying}
use Rattle.certcheck.proofs.reading.Reading.feed.Given as goal

-- the rest of the piece leads where the whole does
abbrev pub invariant-loop-end : goal.invariant-loop-end
invariant-loop-end l =
    (bytes_on (tests_by l.self.progress.purpose l.instance) (reads (reading_of l.self)) l.rest ≡ bytes_on (tests_by l.fn.self.progress.purpose l.instance) (reads (reading_of l.fn.self)) l.piece)
    × Stands l.instance.n l.self.progress
    × (l.self.progress.purpose ≡ l.fn.self.progress.purpose)
    × Saying (tests_by l.fn.self.progress.purpose l.instance) l.fn.self l.piece l.self l.rest

abbrev pub decreases-loop-end : goal.decreases-loop-end
decreases-loop-end l = length l.rest
