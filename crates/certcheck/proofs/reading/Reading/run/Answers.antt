use Rattle.std.proofs.Common.{sym, ◌∙◌}
use Rattle.certcheck.specs.Purposes.{tests_by}
use Rattle.certcheck.specs.Stages.{stage_of}
use Rattle.certcheck.specs.Readings.{reading_of}
use Rattle.certcheck.proofs.ReadingLemmas.{run_on, same_place}
use Rattle.certcheck.proofs.SayLemmas.{kept_quietly}
use Rattle.certcheck.proofs.reading.Reading.run.Goals as goal

pub returns-clause-reads : goal.returns-clause-reads
returns-clause-reads c = (
  run_on (tests_by c.args.self.now.progress.purpose c.args.instance.now) (reading_of c.args.self.now) c.args.run.now c.requires.no_end (c.has_room.ensures c.if-not-has_room.false)
      ∙ same_place (stage_of c.args.self.now.progress) (sym c.with_bytes-self.ensures.at) (sym c.with_bytes-self.ensures.read) (sym c.in_ok-extend_from_slice.ensures.items),
  c.requires.stands,
)

pub returns-clause-says : goal.returns-clause-says
returns-clause-says c = λ h said k. kept_quietly (tests_by c.args.self.now.progress.purpose c.args.instance.now) (reading_of c.args.self.now) c.args.run.now c.args.self.now.parts said c.requires.no_end k
