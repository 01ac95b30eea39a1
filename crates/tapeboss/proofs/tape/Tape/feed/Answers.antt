use Rattle.std.proofs.Common.{◌≡◌, ℕ, ◌+◌, List, [], ◌++◌, length, refl, sym, ap, ◌∙◌, subst}
use Rattle.std.proofs.lemmas.List.{append-nil}
use Rattle.std.proofs.lemmas.Bool.{eqb-true}
use Rattle.certline.proofs.Runs.{some_left}
use Rattle.tapeboss.specs.Frames.{number_of}
use Rattle.tapeboss.specs.Replies.{fault_line}
use Rattle.tapeboss.specs.Tapes.{Playing, GoesOn, StopsAt}
use Rattle.tapeboss.specs.declared.error.Fault.{Fault}
use Rattle.tapeboss.specs.declared.error.Fault.TheVariants.{TooLong}
use Rattle.tapeboss.specs.declared.error.TapeError.TheVariants.{Bad}
use Rattle.tapeboss.proofs.Playing.{goes_nowhere, goes_further, stops_further, stops_before, too_long_is_told}
use Rattle.tapeboss.proofs.PieceLemmas.{err_is, none_left, both, goes_by, put_more}
use Rattle.tapeboss.proofs.tape.Tape.feed.Goals as goal

pub loop-rest-init : goal.loop-rest-init
loop-rest-init c = ([], [], refl, sym (append-nil c.args.out.now.items), goes_nowhere c.args.self)

pub returns-then-count-eq0-clause-bad : goal.returns-then-count-eq0-clause-bad
returns-then-count-eq0-clause-bad c = λ f k e.
    let inv = c.loop-rest.invariant in
    let rest = c.loop-rest.rest.now in
    let h = c.stop.ensures f k (err_is c.stop.result (Bad f k) e) in
    let view = c.tape.view_is in
    let some = some_left rest (sym c.is_empty.ensures ∙ c.loop-rest-test.true) in
    let line = fault_line (number_of TooLong) (c.tape.inside.frames + 1) in
    let told = too_long_is_told c.loop-rest.tape rest line k (h.1 ∙ ap (λ (t : Playing). t.frames + 1) view) (ap (λ (t : Playing). fault_line (number_of TooLong) (t.frames + 1)) view) (c.wanted-count.ensures.none c.if-count-eq0.true some) some in (
      inv.1 ++ line,
      put_more c.args.out.now.items c.loop-rest.out.items c.stop.new.out.items inv.1 line inv.3 h.2,
      subst (λ (z : List ℕ). StopsAt c.args.self z (inv.1 ++ line) f k) (sym inv.2)
          (subst (λ (g : Fault). StopsAt c.args.self (inv.0 ++ rest) (inv.1 ++ line) g k) (sym h.0)
          (stops_further c.args.self c.loop-rest.tape inv.0 rest inv.1 line TooLong k inv.4 told)),
    )

pub returns-in-Err-clause-bad : goal.returns-in-Err-clause-bad
returns-in-Err-clause-bad c = λ f k e.
    let inv = c.loop-rest.invariant in
    let rest = c.loop-rest.rest.now in
    let part = c.split_at.result.0.now in
    let more = c.split_at.result.1.now in
    let got = c.in-Err.ensures.bad f k e in
    let all = both rest part more c.wanted-count.result c.split_at.ensures.front c.split_at.ensures.back in (
      inv.1 ++ got.0,
      put_more c.args.out.now.items c.loop-rest.out.items c.go_on.new.out.items inv.1 got.0 inv.3 got.1,
      subst (λ (z : List ℕ). StopsAt c.args.self z (inv.1 ++ got.0) f k) (sym inv.2)
          (stops_further c.args.self c.loop-rest.tape inv.0 rest inv.1 got.0 f k inv.4
          (subst (λ (z : List ℕ). StopsAt c.loop-rest.tape z got.0 f k) all (stops_before c.loop-rest.tape part more got.0 f k got.2))),
    )

pub loop-rest-preserved : goal.loop-rest-preserved
loop-rest-preserved c =
    let inv = c.loop-rest.invariant in
    let rest = c.loop-rest.rest.now in
    let part = c.split_at.result.0.now in
    let more = c.split_at.result.1.now in
    let got = c.in-Ok.ensures.played in
    let all = both rest part more c.wanted-count.result c.split_at.ensures.front c.split_at.ensures.back in (
      inv.0 ++ part,
      inv.1 ++ got.0,
      goes_by c.args.piece.now inv.0 rest part more inv.2 all,
      put_more c.args.out.now.items c.loop-rest.out.items c.go_on.new.out.items inv.1 got.0 inv.3 got.1,
      goes_further c.args.self c.loop-rest.tape c.in-Ok.next inv.0 part inv.1 got.0 inv.4 got.2,
    )

pub returns-clause-played : goal.returns-clause-played
returns-clause-played c =
    let inv = c.loop-rest.invariant in
    let rest = c.loop-rest.rest.now in
    let none = none_left rest (eqb-true (length rest) 0 (sym c.is_empty.ensures ∙ c.loop-rest-test.false)) in
    let all : inv.0 ≡ c.args.piece.now = sym (inv.2 ∙ (ap (λ (z : List ℕ). inv.0 ++ z) none ∙ append-nil inv.0)) in
    (inv.1, inv.3, subst (λ (z : List ℕ). GoesOn c.args.self z inv.1 c.loop-rest.tape) all inv.4)
