use Rattle.std.proofs.Common.{List, take, sym, subst}
use Rattle.std.specs.List.{All}
use Rattle.std.proofs.lemmas.List.Elements.{All-take}
use Rattle.tspdef.specs.Cuts.{Cut, IsCut}
use Rattle.cutpool.specs.Pool.{IsWorthAdding}
use Rattle.cutpool.proofs.SeatLemmas.{own_worth}
use Rattle.cutpool.proofs.seat.Seat.own_violated.Goals as goal

pub returns-clause-worth : goal.returns-clause-worth
returns-clause-worth g c =
    let x = c.args.x.now in
    let n = c.args.self.now.n in
    let cuts = c.args.self.now.cuts in
    let place = c.loop-place.place in
    subst (λ (cs : List Cut). All (IsWorthAdding x) cs) (sym c.loop-place.invariant) (own_worth x n (take place cuts) c.requires.cities (All-take (IsCut n) place cuts c.len-place-end.ensures.cuts))
