use Rattle.std.proofs.Common.{◌∙◌}
use Rattle.tspinst.proofs.PartnerLemmas.{tells_all}
use Rattle.tspinst.proofs.table.Instance.is_fixed.Goals as goal

pub returns : goal.returns
returns c =
    let f = c.self.inside in
    rw (← c.self.view_is) (c.are_partners.ensures ∙ rw c.deref.ensures.value (tells_all f.n f.fixed.items f.partners.items c.self.invariant.fixed.below f.told c.args.u c.args.v))
