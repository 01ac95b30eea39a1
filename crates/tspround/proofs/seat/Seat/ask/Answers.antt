use Rattle.std.proofs.Common.{◌≡◌, ◌<◌, length, sym, subst}
use Rattle.bossx.specs.declared.events.Reply.{Reply}
use Rattle.bossx.specs.Books.{best_length}
use Rattle.tspround.specs.Rounds.{Holding, WasLent}
use Rattle.tspround.proofs.Holding.{step_lent}
use Rattle.tspround.proofs.seat.Seat.ask.Goals as goal

pub order-requires-clause-node : goal.order-requires-clause-node
order-requires-clause-node g c =
    let new = c.act-reply.new.held in
    let is = subst (λ (r : Reply). WasLent r new.book) c.in-Some-lent.ensures (step_lent _ new.book _ c.act-reply.result c.act-reply.ensures.step) in
    subst (λ (h : Holding). c.in-Some-lent.node < length h.book.tree.nodes) (sym c.deref.ensures) is.0

pub order-requires-clause-best : goal.order-requires-clause-best
order-requires-clause-best g c =
    let new = c.act-reply.new.held in
    let is = subst (λ (r : Reply). WasLent r new.book) c.in-Some-lent.ensures (step_lent _ new.book _ c.act-reply.result c.act-reply.ensures.step) in
    subst (λ (h : Holding). c.in-Some-lent.best ≡ best_length h.book) (sym c.deref.ensures) is.1
