use Rattle.std.proofs.Common.{List, Bool, subst}
use Rattle.maxflow.specs.Flows.{IsLeastFlow}
use Rattle.sepsub.proofs.GrowthLemmas.{alone_is_apart}
use Rattle.sepsub.proofs.components.home.Goals as goal

pub returns-clause-apart : goal.returns-clause-apart
returns-clause-apart c =
    let w = c.args.network.now in
    alone_is_apart w 0 c.in_ok-stops.stops.items c.in_ok-component.component (λ k h. c.in_ok-stops.ensures.none k)
    (subst (λ (v : List Bool). IsLeastFlow w 0 v c.in_ok-component.component) c.deref.ensures.value c.in_ok-component.ensures)
