use Rattle.std.proofs.Common.{◌≡◌, ◌+◌, ◌<◌, ◌^◌, None, length, subst, sym}
use Rattle.leasebook.specs.Leases.{of_grunt, of_node}
use Rattle.leasebook.specs.Log.{Table}
use Rattle.leasebook.proofs.KeptLemmas.{granted_kept}
use Rattle.leasebook.proofs.table.LeaseTable.grant.Goals as goal

pub invariant_of-self : goal.invariant_of-self
invariant_of-self c =
    let view = sym c.self.view_is in
    rw (c.add.ensures.items, c.note.ensures.items, c.mark.ensures, c.mark-2.ensures, c.count-lease.ensures, c.deref.ensures.value)
    (granted_kept c.self.inside.leases.items c.self.inside.log.items c.self.inside.by_node.items c.self.inside.by_grunt.items c.self.inside.held c.self.inside.lost c.args.grunt c.args.node
    c.self.invariant
    (subst (λ (t : Table). c.args.grunt < t.grunts) view c.requires.grunt)
    (subst (λ (t : Table). c.args.node < t.nodes) view c.requires.node)
    (subst (λ (t : Table). of_grunt t.leases c.args.grunt ≡ None) view c.requires.grunt_is_free)
    (subst (λ (t : Table). of_node t.leases c.args.node ≡ None) view c.requires.node_is_free)
    (subst (λ (t : Table). length t.leases + 1 < 2 ^ 32) view c.requires.few))
