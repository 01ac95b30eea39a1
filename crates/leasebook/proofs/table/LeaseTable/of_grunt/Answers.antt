use Rattle.std.proofs.Common.{◌≡◌, subst}
use Rattle.leasebook.specs.Leases.{of_grunt}
use Rattle.leasebook.specs.Log.{Table}
use Rattle.leasebook.proofs.HolderLemmas.{looked_up}
use Rattle.leasebook.proofs.table.LeaseTable.of_grunt.Goals as goal

pub returns : goal.returns
returns c = subst (λ (t : Table). c.look.result ≡ of_grunt t.leases c.args.grunt) c.self.view_is
    (rw (c.look.ensures, c.deref.ensures.value) (looked_up (λ l. l.grunt) c.self.inside.leases.items c.self.inside.by_grunt.items c.args.grunt c.self.invariant.grunts c.self.invariant.grunts_below))
