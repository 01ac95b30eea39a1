use Rattle.std.proofs.Common.{sym, subst}
use Rattle.tspdef.specs.Tours.{IsTour}
use Rattle.flips.specs.Places.{read}
use Rattle.flips.proofs.Readings.{places_tour}
use Rattle.flips.proofs.tour.ArrayTour.n.Goals as goal

pub returns-clause-tour : goal.returns-clause-tour
returns-clause-tour c =
    let t = c.self.inside.places in
    let is = places_tour t c.self.inside.backward in
    rw (← c.self.view_is) (subst (λ k. IsTour k (read c.self.inside.backward t.order.items)) (sym is.all) is)
