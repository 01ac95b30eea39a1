use Rattle.std.proofs.Common.{◌∙◌}
use Rattle.std.proofs.lemmas.Grind.{get_or_default_zero}
use Rattle.tspdef.specs.Instances.{Instance}
use Rattle.tspinst.proofs.TableLemmas.{dist_at, place_within}
use Rattle.tspinst.proofs.table.Instance.d.Goals as goal

pub returns-clause-same : goal.returns-clause-same
returns-clause-same c =
    let i : Instance = record { n = c.self.inside.n; table = c.self.inside.table.items; fixed = c.self.inside.fixed.items } in
    let from = rw (← c.self.view_is) at c.requires.from in
    let to = rw (← c.self.view_is) at c.requires.to in
    rw (← c.self.view_is) (c.index.ensures ∙ get_or_default_zero _ _ _ (place_within i _ _ c.self.invariant from to) ∙ dist_at i _ _ c.self.invariant from to)

pub returns-clause-small : goal.returns-clause-small
returns-clause-small c =
    let i : Instance = record { n = c.self.inside.n; table = c.self.inside.table.items; fixed = c.self.inside.fixed.items } in
    let from = rw (← c.self.view_is) at c.requires.from in
    let to = rw (← c.self.view_is) at c.requires.to in
    rw (c.index.ensures ∙ get_or_default_zero _ _ _ (place_within i _ _ c.self.invariant from to)) (c.self.invariant.small _)
