use Rattle.std.proofs.Common.{◌≡◌, ◌<◌, length, sym, subst}
use Rattle.bossx.specs.Books.{best_length}
use Rattle.tspround.specs.Rounds.{Holding}
use Rattle.tspround.proofs.Holding.{ordered}
use Rattle.tspround.proofs.held.Held.order.Goals as goal

pub returns : goal.returns
returns g c =
    let b = c.self.inside.boss in
    let within = subst (λ (h : Holding). c.args.node < length h.book.tree.nodes) (sym c.self.view_is) c.requires.node in
    let long = subst (λ (h : Holding). c.args.best ≡ best_length h.book) (sym c.self.view_is) c.requires.best in
    ordered g.W.Worker.splits g.J.Opening.book b c.self.inside.ledgers.grants.total c.self.inside.ledgers.takes.total c.args.node _ c.self.invariant c.snapshot-book.ensures.book within
    c.requires.few c.in_ok-path.ensures long
