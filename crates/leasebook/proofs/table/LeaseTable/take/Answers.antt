use Rattle.leasebook.proofs.KeptLemmas.{taken_kept}
use Rattle.leasebook.proofs.table.LeaseTable.take.Goals as goal

pub invariant_of-self : goal.invariant_of-self
invariant_of-self c = rw c.note.ensures.items
    (taken_kept c.self.inside.leases.items c.self.inside.log.items c.self.inside.by_node.items c.self.inside.by_grunt.items c.self.inside.held c.self.inside.lost c.args.node c.args.split c.self.invariant)
