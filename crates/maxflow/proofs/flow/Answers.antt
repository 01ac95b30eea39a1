use Rattle.std.proofs.Common.{subst}
use Rattle.maxflow.specs.Flows.{IsLeastFlow}
use Rattle.maxflow.proofs.FlowLemmas.{parts_from}
use Rattle.maxflow.proofs.flow.Goals as goal

pub returns : goal.returns
returns c =
    let w = c.in_ok-network.network in
    let stops = c.in_ok-stops.stops.items in
    parts_from c.args.x.now w c.args.s c.args.t stops c.in_ok-side.side c.in_ok-network.ensures.cities c.in_ok-network.ensures.weights c.requires.second
    c.in_ok-stops.ensures.here c.in_ok-stops.ensures.others
    (subst (λ v. IsLeastFlow w c.args.s v c.in_ok-side.side) c.deref.ensures.value c.in_ok-side.ensures)
