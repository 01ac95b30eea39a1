use Rattle.std.proofs.Common.{◌≡◌, true, sym, ap, ◌∙◌, subst}
use Rattle.std.proofs.lemmas.Option.{MatchOption-at_some, MatchOption-at_none}
use Rattle.certdef.specs.Tests.{is_canonical}
use Rattle.tspdef.specs.Tours.{IsTour}
use Rattle.certtests.specs.Places.{AreFromOne}
use Rattle.certtests.proofs.TourLemmas.{tour_out_of_range, tour_lacks, no_tour, fixed_within, steps_tested, tour_found}
use Rattle.certtests.proofs.tours.canonical_tour.Goals as goal

pub returns-in_default-clause-found : goal.returns-in_default-clause-found
returns-in_default-clause-found c = sym (tour_out_of_range c.args.instance.now c.args.cities.now
    (subst (λ m. ¬ AreFromOne m c.args.cities.now) c.n.ensures.same (MatchOption-at_none _ _ c.in_default.is c.in_ok-numbers.ensures)))

pub returns-in_default-2-clause-found : goal.returns-in_default-2-clause-found
returns-in_default-2-clause-found c =
    let got = MatchOption-at_some _ _ c.in-Some.numbers c.in-Some.is c.in_ok-numbers.ensures in
    no_tour c.args.instance.now c.n-2.result c.args.cities.now c.in-Some.numbers.items c.n-2.ensures.same got.1 (MatchOption-at_none _ _ c.in_default-2.is c.in_ok-tour.ensures)

pub are_steps-requires-clause-pairs : goal.are_steps-requires-clause-pairs
are_steps-requires-clause-pairs c =
    let made = MatchOption-at_some _ _ c.in-Some-2.tour c.in-Some-2.is c.in_ok-tour.ensures in
    fixed_within c.args.instance.now c.n-2.result c.in-Some.numbers.items c.cities.result.now c.fixed.result.now c.n.ensures.instance.fixed.below c.n-2.ensures.same made.0 (c.cities.ensures.value ∙ made.1) c.fixed.ensures

pub returns-then-not-branch-clause-found : goal.returns-then-not-branch-clause-found
returns-then-not-branch-clause-found c =
    let got = MatchOption-at_some _ _ c.in-Some.numbers c.in-Some.is c.in_ok-numbers.ensures in
    let made = MatchOption-at_some _ _ c.in-Some-2.tour c.in-Some-2.is c.in_ok-tour.ensures in
    sym (tour_lacks c.args.instance.now c.args.cities.now
    (steps_tested c.args.instance.now c.args.cities.now c.in-Some.numbers.items c.cities.result.now c.fixed.result.now c.in_ok-are_steps.field-0 got.1 (c.cities.ensures.value ∙ made.1) c.fixed.ensures c.in_ok-are_steps.ensures
    ∙ c.if-not-branch.true))

pub returns-clause-found : goal.returns-clause-found
returns-clause-found c =
    let got = MatchOption-at_some _ _ c.in-Some.numbers c.in-Some.is c.in_ok-numbers.ensures in
    let made = MatchOption-at_some _ _ c.in-Some-2.tour c.in-Some-2.is c.in_ok-tour.ensures in
    let canonical : is_canonical c.in-Some.numbers.items ≡ true = ap is_canonical (sym c.deref.ensures.value) ∙ (sym c.is_canonical.ensures ∙ c.if-not-is_canonical.false) in
    tour_found c.args.instance.now c.n.result c.args.cities.now c.in-Some.numbers.items c.n.ensures.same got.0 got.1 canonical (subst (λ m. IsTour m c.in-Some.numbers.items) (c.n-2.ensures.same ∙ sym c.n.ensures.same) made.0)
    (steps_tested c.args.instance.now c.args.cities.now c.in-Some.numbers.items c.cities.result.now c.fixed.result.now c.in_ok-are_steps.field-0 got.1 (c.cities.ensures.value ∙ made.1) c.fixed.ensures c.in_ok-are_steps.ensures
    ∙ c.if-not-branch.false)
