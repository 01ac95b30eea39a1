use Rattle.std.proofs.Common.{ℕ, List, subst, arith}
use Rattle.std.specs.Prelude.{IfSome}
use Rattle.tspdef.specs.Tours.{IsTour}
use Rattle.tspdef.specs.Paths.{Condition}
use Rattle.tspdef.specs.Rays.{AreStepsOf}
use Rattle.pathtour.specs.UsedTour.{IsUsedTour}
use Rattle.worker.proofs.plain.used_tour.Goals as goal

pub returns-in-Some-clause-tour : goal.returns-in-Some-clause-tour
returns-in-Some-clause-tour c =
    let i = c.args.instance.now in
    let n = c.args.path.now.n in
    let path = c.args.path.now.conditions in
    let same = c.requires.cities in
    let tour = c.in-Some.tour in
    let it : IsUsedTour n path tour = subst (λ o. IfSome o (IsUsedTour n path)) c.in-Some.is c.in_ok-tour.ensures.found in
    c.used_pairs_are_one_tour.ensures.fixed i c.requires.begins.0 tour c.n-n.ensures.instance (subst (λ (m : ℕ). IsTour m tour) same it.is_tour)
    (subst (λ (p : List Condition). AreStepsOf i.n p tour) c.requires.begins.1 (subst (λ (m : ℕ). AreStepsOf m path tour) same it.used))

pub returns-in-Some-clause-least : goal.returns-in-Some-clause-least
returns-in-Some-clause-least c = λ other is used.
    let i = c.args.instance.now in
    let n = c.args.path.now.n in
    let path = c.args.path.now.conditions in
    let same = c.requires.cities in
    let tour = c.in-Some.tour in
    let it : IsUsedTour n path tour = subst (λ o. IfSome o (IsUsedTour n path)) c.in-Some.is c.in_ok-tour.ensures.found in
    let as_long = c.used_pairs_are_one_tour.ensures.long i path tour other c.n-n.ensures.instance.many
    (subst (λ (m : ℕ). IsTour m tour) same it.is_tour) is (subst (λ (m : ℕ). AreStepsOf m path tour) same it.used) used in
    let most = c.lesser.ensures.least in
    let long = c.length-length.ensures in
    omega arith
