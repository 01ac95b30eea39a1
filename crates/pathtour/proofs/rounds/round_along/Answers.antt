use Rattle.std.proofs.Common.{sym, ◌∙◌, ap, subst}
use Rattle.std.specs.Prelude.{Err}
use Rattle.std.proofs.lemmas.Option.{MatchOption-at_some}
use Rattle.tspdef.specs.Tours.{IsTour}
use Rattle.pathtour.proofs.RoundLemmas.{round_one}
use Rattle.pathtour.proofs.rounds.round_along.Goals as goal

pub returns-in-Err-NotATour-clause-none : goal.returns-in-Err-NotATour-clause-none
returns-in-Err-NotATour-clause-none c =
    let walked = MatchOption-at_some _ _ c.in-Some.cities c.in-Some.is c.in_ok-cities.ensures in
    λ tour t r.
    let same = round_one c.args.pairs.now tour c.in-Some.cities.items (t.all ∙ sym walked.0) r walked.1 in
    c.new.ensures.not_a_tour (c.in-Err-NotATour.is ∙ ap Err c.in-Err-NotATour.field-0-is) (subst (IsTour c.args.n) same t)
