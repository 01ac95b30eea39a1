use Rattle.std.proofs.Common.{◌≡◌, ◌<◌, true, length, arith, subst, sym}
use Rattle.leasebook.specs.Leases.{is_held, lease_at}
use Rattle.leasebook.specs.Log.{Table}
use Rattle.leasebook.proofs.KeptLemmas.{ended_kept, lost_fits}
use Rattle.leasebook.proofs.table.LeaseTable.end.Goals as goal

pub overflow_add-self : goal.overflow_add-self
overflow_add-self c =
    let known = subst (λ (t : Table). c.args.lease < length t.leases) (sym c.self.view_is) c.requires.known in
    let is = subst (λ (t : Table). is_held (lease_at t.leases c.args.lease) ≡ true) (sym c.self.view_is) c.requires.is_held in
    let fits = lost_fits c.self.inside.leases.items c.self.inside.log.items c.self.inside.by_node.items c.self.inside.by_grunt.items c.self.inside.held c.self.inside.lost c.args.lease c.args.fate c.self.invariant known is in
    rw c.losses.ensures.value (omega (arith, fits))

pub invariant_of-self : goal.invariant_of-self
invariant_of-self c =
    let known = subst (λ (t : Table). c.args.lease < length t.leases) (sym c.self.view_is) c.requires.known in
    let is = subst (λ (t : Table). is_held (lease_at t.leases c.args.lease) ≡ true) (sym c.self.view_is) c.requires.is_held in
    rw (c.finish-old.ensures.items, c.note.ensures.items, c.mark.ensures, c.mark-2.ensures, c.finish-old.ensures.was, c.losses.ensures.value)
    (ended_kept c.self.inside.leases.items c.self.inside.log.items c.self.inside.by_node.items c.self.inside.by_grunt.items c.self.inside.held c.self.inside.lost c.args.lease c.args.fate c.self.invariant known is c.requires.ends)
