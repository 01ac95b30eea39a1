use Rattle.std.proofs.Common.{◌<◌, length, subst, sym}
use Rattle.leasebook.specs.Log.{Table}
use Rattle.leasebook.proofs.table.LeaseTable.node_of.Goals as goal

pub returns-clause-inside : goal.returns-clause-inside
returns-clause-inside c =
    let known = subst (λ (t : Table). c.args.lease < length t.leases) (sym c.self.view_is) c.requires in
    subst (λ (t : Table). c.lease_in.result.node < t.nodes) c.self.view_is
    (rw (c.lease_in.ensures, c.deref.ensures.value) (c.self.invariant.nodes_below c.args.lease known))
