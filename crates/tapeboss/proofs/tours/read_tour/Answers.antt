use Rattle.std.proofs.Common.{◌≡◌, Some, true, sym, ◌∙◌, subst, arith}
use Rattle.std.proofs.lemmas.Option.{MatchOption-at_some, MatchOption-at_none}
use Rattle.std.proofs.lemmas.Result.{IfOk-weaker}
use Rattle.certdef.specs.Accepted.{from_zero}
use Rattle.certtests.specs.Places.{AreFromOne}
use Rattle.tapeboss.specs.Lines.{first_line, other_lines, are_over, cities_of}
use Rattle.tapeboss.proofs.ReportLemmas.{of_last_line, out_of_range, tour_made}
use Rattle.tapeboss.proofs.tours.read_tour.Goals as goal

pub returns-in_default-2 : goal.returns-in_default-2
returns-in_default-2 c =
    let cs = c.in-Some.cities.items in
    let line : cities_of (first_line c.args.n c.args.text.now) ≡ Some cs = grind (arith, c.in_ok-cities.ensures.value, c.in-Some.is, c.new-lines.ensures) in
    let over : are_over (other_lines c.args.text.now) ≡ true = grind (arith, c.are_over.ensures, c.if-not-are_over.false, c.in_ok-cities.ensures.rest, c.new-lines.ensures) in
    sym (of_last_line c.args.n c.args.text.now cs line over ∙ out_of_range c.args.n cs (subst (λ ds. ¬ AreFromOne c.args.n ds) c.deref.ensures.value (MatchOption-at_none _ _ c.in_default-2.is c.in_ok-numbers.ensures)))

pub returns : goal.returns
returns c =
    let cs = c.in-Some.cities.items in
    let line : cities_of (first_line c.args.n c.args.text.now) ≡ Some cs = grind (arith, c.in_ok-cities.ensures.value, c.in-Some.is, c.new-lines.ensures) in
    let over : are_over (other_lines c.args.text.now) ≡ true = grind (arith, c.are_over.ensures, c.if-not-are_over.false, c.in_ok-cities.ensures.rest, c.new-lines.ensures) in
    let got = MatchOption-at_some _ _ c.in-Some-2.numbers c.in-Some-2.is c.in_ok-numbers.ensures in
    IfOk-weaker c.tour_of.result _ _ (λ o h. tour_made c.args.n cs c.in-Some-2.numbers.items o (subst (AreFromOne c.args.n) c.deref.ensures.value got.0) (subst (λ ds. c.in-Some-2.numbers.items ≡ from_zero ds) c.deref.ensures.value got.1) h
    ∙ sym (of_last_line c.args.n c.args.text.now cs line over)) c.tour_of.ensures
