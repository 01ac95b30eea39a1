use Rattle.std.proofs.Common.{List, sym, subst}
use Rattle.std.specs.List.{All, Contains}
use Rattle.std.proofs.lemmas.List.Elements.{All-append}
use Rattle.tspdef.specs.Cuts.{Cut}
use Rattle.cutpool.specs.Pool.{IsWorthAdding}
use Rattle.cutpool.proofs.SeatLemmas.{are_cuts, own_there}
use Rattle.cutpool.proofs.seat.Seat.fetch.Goals as goal

pub returns-clause-worth : goal.returns-clause-worth
returns-clause-worth g c =
    let x = c.args.x.now in
    subst (λ (cs : List Cut). All (IsWorthAdding x) cs) (sym c.in_ok-append.ensures.items) (All-append (IsWorthAdding x) c.in_ok-found.found.items c.in_ok-others.others.items c.in_ok-found.ensures.worth c.in_ok-others.ensures)

pub returns-clause-cuts : goal.returns-clause-cuts
returns-clause-cuts g c = are_cuts c.args.x.now c.append.new.self.items (returns-clause-worth g c)

pub returns-clause-own : goal.returns-clause-own
returns-clause-own g c =
    let found = c.in_ok-found.found.items in
    subst (λ (own : List Cut). All (Contains c.append.new.self.items) own) c.in_ok-found.ensures.violated (subst (λ (cs : List Cut). All (Contains cs) found) (sym c.in_ok-append.ensures.items) (own_there found c.in_ok-others.others.items))
