use Rattle.std.proofs.Common.{◌≡◌, sym, subst, ◌∙◌, Err}
use Rattle.certcheck.specs.Purposes.{tests_by}
use Rattle.certdef.specs.Bytes.{reads, bytes_on}
use Rattle.certcheck.specs.Checkers.{Checking}
use Rattle.certcheck.specs.Readings.{reading_of, Reads}
use Rattle.certcheck.proofs.CheckerLemmas.{stays_short, read_on, refused_for_good}
use Rattle.certcheck.proofs.checker.Checker.feed.Goals as goal

pub returns-in_err-feed-clause-refused : goal.returns-in_err-feed-clause-refused
returns-in_err-feed-clause-refused c =
    let s = c.self.inside in
    let old : Checking = record { instance = s.instance.now; reading = reading_of s.reading } in
    rw (← c.self.view_is) (refused_for_good s.instance.now.n old c.in_err-feed.field-0.0 c.from_residual.result c.feed.new.self c.args.piece.now c.from_residual.ensures.1 (subst (λ u. Reads s.instance.now.n (Err c.in_err-feed.field-0.0) c.feed.new.self (bytes_on (tests_by u s.instance.now) (reads (reading_of s.reading)) c.args.piece.now)) c.self.invariant.2 c.in_err-feed.ensures.reads))

pub invariant_of-result : goal.invariant_of-result
invariant_of-result c =
    let s = c.self.inside in
    (c.in_ok-feed.ensures.reads.1, stays_short (tests_by s.reading.progress.purpose s.instance.now) (reading_of s.reading) (reading_of c.feed.new.self) c.args.piece.now c.self.invariant.1 c.in_ok-feed.ensures.reads.0, c.in_ok-feed.ensures.same ∙ c.self.invariant.2)

pub returns-clause-fed : goal.returns-clause-fed
returns-clause-fed c =
    let s = c.self.inside in
    rw (← c.self.view_is) (λ fed h. read_on s.instance.now (reading_of s.reading) fed c.args.piece.now (reads (reading_of c.feed.new.self)) h (sym (subst (λ u. bytes_on (tests_by u s.instance.now) (reads (reading_of s.reading)) c.args.piece.now ≡ reads (reading_of c.feed.new.self)) c.self.invariant.2 c.in_ok-feed.ensures.reads.0)))
