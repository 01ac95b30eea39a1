use Rattle.std.proofs.Common.{◌≡◌, sym, ◌∙◌, refl, ap, subst, [], ◌∷◌, ◌++◌, ◌+◌, length, arith}
use Rattle.certdef.specs.Items.{item_of}
use Rattle.certcheck.specs.Purposes.{tests_by}
use Rattle.certdef.specs.Verdicts.{line_step}
use Rattle.certdef.specs.Bytes.{reads, bytes_on, byte_on, line_on}
use Rattle.certcheck.specs.Stages.{stage_of}
use Rattle.certcheck.specs.Readings.{reading_of, Reads}
use Rattle.certcheck.proofs.ReadingLemmas.{refused_on, line_refused, in_turn, line_whole, same_place, done, empty_list}
use Rattle.certcheck.specs.Keeping.{Keeps}
use Rattle.certcheck.proofs.SayLemmas.{line_said, then_line_end, on_ok_then}
use Rattle.std.proofs.lemmas.Bool.Decides.{nat_tests}
use Rattle.certcheck.proofs.reading.Reading.line.Goals as goal

pub returns-in_err-run-clause-reads : goal.returns-in_err-run-clause-reads
returns-in_err-run-clause-reads c =
    let i = c.args.instance.now in
    let j = tests_by c.args.self.now.progress.purpose i in
    let old = reads (reading_of c.args.self.now) in
    let bytes = c.args.run.now in
    refused_on i.n c.in_err-run.field-0.0 c.from_residual.result c.run.new.self c.run.new.self j (bytes_on j old bytes) (bytes_on j old (bytes ++ 10 ∷ [])) (10 ∷ [])
    c.from_residual.ensures.1 c.in_err-run.ensures.reads (in_turn j old bytes (10 ∷ []) (bytes ++ 10 ∷ []) (bytes_on j old bytes) refl refl)

pub returns-then-not-is_empty-clause-reads : goal.returns-then-not-is_empty-clause-reads
returns-then-not-is_empty-clause-reads c =
    let i = c.args.instance.now in
    let j = tests_by c.args.self.now.progress.purpose i in
    let old = reads (reading_of c.args.self.now) in
    let bytes = c.args.run.now in
    rw (in_turn j old bytes (10 ∷ []) (bytes ++ 10 ∷ []) (reads (reading_of c.run.new.self)) refl c.in_ok-run.ensures.reads.0, done j (byte_on j (reading_of c.run.new.self) 10)) (subst (λ u. Reads i.n c.byte.result c.byte.new.self (byte_on (tests_by u i) (reading_of c.run.new.self) 10)) c.run.ensures.same c.byte.ensures.reads)

pub returns-in_err-part-clause-reads : goal.returns-in_err-part-clause-reads
returns-in_err-part-clause-reads c =
    let i = c.args.instance.now in
    let j = tests_by c.args.self.now.progress.purpose i in
    let s = c.args.self.now in
    let empty : s.begun.items ≡ [] = empty_list s.begun.items (grind (arith, nat_tests)) in
    line_refused i.n c.in_err-part.field-0.0 c.from_residual-in_err-part.result c.line.new.self _ _ s.count.at (s.count.read + length c.args.run.now) _ c.from_residual-in_err-part.ensures.1 c.in_err-part.ensures.goes
    (line_whole j (reading_of s) c.args.run.now empty c.requires.no_end (c.has_room.ensures c.if-not-has_room.false)
    ∙ ap (λ at. line_on s.count.at (s.count.read + length c.args.run.now) (line_step j at (stage_of s.progress) (item_of i.n c.args.run.now))) (sym c.at.ensures))

pub returns-clause-reads : goal.returns-clause-reads
returns-clause-reads c =
    let i = c.args.instance.now in
    let j = tests_by c.args.self.now.progress.purpose i in
    let s = c.args.self.now in
    let empty : s.begun.items ≡ [] = empty_list s.begun.items (grind (arith, nat_tests)) in (
      line_whole j (reading_of s) c.args.run.now empty c.requires.no_end (c.has_room.ensures c.if-not-has_room.false)
          ∙ (ap (λ at. line_on s.count.at (s.count.read + length c.args.run.now) (line_step j at (stage_of s.progress) (item_of i.n c.args.run.now))) (sym c.at.ensures)
          ∙ (ap (line_on s.count.at (s.count.read + length c.args.run.now)) c.in_ok-part.ensures.goes.0
          ∙ same_place (stage_of c.line.new.self) (sym (c.with_line_end-self.ensures.at ∙ ap (λ k. k + 1) c.with_bytes.ensures.at)) (sym (c.with_line_end-self.ensures.read ∙ ap (λ k. k + 1) c.with_bytes.ensures.read)) (sym empty))),
      c.in_ok-part.ensures.goes.1,
    )

pub returns-then-not-is_empty-clause-says : goal.returns-then-not-is_empty-clause-says
returns-then-not-is_empty-clause-says c =
    on_ok_then c.byte.result _ _ c.byte.ensures.says
    (then_line_end c.args.instance.now c.args.self.now c.run.new.self c.byte.new.self c.args.run.now c.run.ensures.same c.in_ok-run.ensures.reads.0 c.in_ok-run.ensures.says)

pub returns-clause-says : goal.returns-clause-says
returns-clause-says c = λ h said k.
    let i = c.args.instance.now in
    let j = tests_by c.args.self.now.progress.purpose i in
    let s = c.args.self.now in
    let empty : s.begun.items ≡ [] = empty_list s.begun.items (grind (arith, nat_tests)) in
    subst (λ x. Keeps c.put.new.self (said ++ x)) (c.in_ok-part.ensures.says h ∙ sym (line_said j (reading_of s) c.args.run.now empty c.requires.no_end (c.has_room.ensures c.if-not-has_room.false)))
    (c.in_ok-put.ensures (c.in_ok-part.ensures.same ∙ h) said k)
