use Rattle.std.proofs.Common.{◌≡◌, None, sym, subst}
use Rattle.leasebook.specs.Leases.{of_grunt}
use Rattle.bossx.specs.Books.{Book}
use Rattle.bossx.specs.Steps.{IsNext}
use Rattle.bossx.proofs.Kept.{lend_kept}
use Rattle.bossx.proofs.boss.Boss.lend.Goals as goal

pub invariant_of-self : goal.invariant_of-self
invariant_of-self c =
    let idle = subst (λ (b : Book). of_grunt b.table.leases c.args.grunt ≡ None) (sym c.self.view_is) c.requires.idle in
    let next = subst (λ (b : Book). IsNext b c.args.node) (sym c.self.view_is) c.requires.next in
    lend_kept c.self.inside c.args.grunt c.args.node c.grant-lease.new.self c.set.new.self c.self.invariant idle next
    c.grant-lease.ensures.table c.set.ensures.size c.set.ensures.here c.set.ensures.others
