use Rattle.std.proofs.Common.{◌≡◌, sym, subst, arith}
use Rattle.maxflow.specs.Edges.{room}
use Rattle.maxflow.specs.Searches.{is_met}
use Rattle.maxflow.proofs.RoomLemmas.{none_open}
use Rattle.maxflow.proofs.search.Search.step_over.Goals as goal

pub returns-clause-step : goal.returns-clause-step
returns-clause-step c =
    let es = c.args.residual.now.edges.items in
    (c.loop-place.invariant.rank, subst (λ v. room es (is_met v) ≡ 0) (sym c.loop-place.invariant.rank) (none_open (is_met c.args.self.now.rank.items) es (λ i h. c.loop-place.invariant.closed i (omega arith))))
