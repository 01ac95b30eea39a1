use Rattle.std.proofs.Common.{refl, sym, ap, ◌∙◌, [], ◌∷◌, ◌++◌, ◌-◌, length, take, drop}
use Rattle.std.specs.Prelude.{slice_index}
use Rattle.certcheck.specs.Purposes.{tests_by}
use Rattle.certdef.specs.Bytes.{reads, bytes_on}
use Rattle.certcheck.specs.Readings.{reading_of}
use Rattle.certcheck.proofs.ReadingLemmas.{refused_on, in_turn, at_first_line, is_line_end}
use Rattle.certcheck.proofs.SayLemmas.{said_on, said_last, on_ok_then}
use Rattle.certcheck.proofs.reading.Reading.feed.Goals as goal

pub returns-in_err-line-clause-reads : goal.returns-in_err-line-clause-reads
returns-in_err-line-clause-reads c =
    let i = c.args.instance.now in
    let j = tests_by c.loop-end.self.progress.purpose i in
    let old = reads (reading_of c.loop-end.self) in
    let run = c.split_at.result.0.now in
    let tail = c.split_at.result.1.now in
    let rest = c.loop-end.rest.now in
    let left = take (length tail - 1) (drop 1 tail) in
    let line = run ++ 10 ∷ [] in
    let parts = at_first_line rest run tail c.in-Some.end c.split_at.ensures.front c.split_at.ensures.back c.in-Some.ensures.0.high (is_line_end (slice_index rest c.in-Some.end) c.in-Some.ensures.1) in
    refused_on i.n c.in_err-line.field-0.0 c.from_residual.result c.line.new.self c.line.new.self j (bytes_on j old line) (bytes_on (tests_by c.args.self.now.progress.purpose i) (reads (reading_of c.args.self.now)) c.args.piece.now) left
    c.from_residual.ensures.1 c.in_err-line.ensures.reads (sym c.loop-end.invariant.0 ∙ in_turn j old line left rest (bytes_on j old line) parts refl)

pub loop-end-preserved : goal.loop-end-preserved
loop-end-preserved c =
    let i = c.args.instance.now in
    let j = tests_by c.loop-end.self.progress.purpose i in
    let old = reads (reading_of c.loop-end.self) in
    let run = c.split_at.result.0.now in
    let tail = c.split_at.result.1.now in
    let rest = c.loop-end.rest.now in
    let left = take (length tail - 1) (drop 1 tail) in
    let line = run ++ 10 ∷ [] in
    let parts = at_first_line rest run tail c.in-Some.end c.split_at.ensures.front c.split_at.ensures.back c.in-Some.ensures.0.high (is_line_end (slice_index rest c.in-Some.end) c.in-Some.ensures.1) in (
      ap (λ w. bytes_on (tests_by w i) (reads (reading_of c.line.new.self)) left) c.in_ok-line.ensures.same
          ∙ (sym (in_turn j old line left rest (reads (reading_of c.line.new.self)) parts c.in_ok-line.ensures.reads.0) ∙ c.loop-end.invariant.0),
      c.in_ok-line.ensures.reads.1,
      c.in_ok-line.ensures.same ∙ c.loop-end.invariant.2,
      said_on i c.args.self.now c.loop-end.self c.line.new.self c.args.piece.now rest line left parts c.loop-end.invariant.2 c.in_ok-line.ensures.reads.0 c.in_ok-line.ensures.says c.loop-end.invariant.3,
    )

pub returns-clause-says : goal.returns-clause-says
returns-clause-says c =
    on_ok_then c.run.result _ _ c.run.ensures.says
    (λ m. said_last c.args.instance.now c.args.self.now c.loop-end.self c.run.new.self c.args.piece.now c.loop-end.rest.now c.loop-end.invariant.2 m c.loop-end.invariant.3)
