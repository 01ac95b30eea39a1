use Rattle.std.proofs.Common.{◌≡◌, subst}
use Rattle.leasebook.specs.Leases.{of_node}
use Rattle.leasebook.specs.Log.{Table}
use Rattle.leasebook.proofs.HolderLemmas.{looked_up}
use Rattle.leasebook.proofs.table.LeaseTable.of_node.Goals as goal

pub returns : goal.returns
returns c = subst (λ (t : Table). c.look.result ≡ of_node t.leases c.args.node) c.self.view_is
    (rw (c.look.ensures, c.deref.ensures.value) (looked_up (λ l. l.node) c.self.inside.leases.items c.self.inside.by_node.items c.args.node c.self.invariant.nodes c.self.invariant.nodes_below))
