use Rattle.std.proofs.Common.{◌≡◌, Some, None, sym, ◌∙◌, subst}
use Rattle.leasebook.specs.Leases.{of_grunt}
use Rattle.leasebook.proofs.HolderLemmas.{found}
use Rattle.bossx.specs.Books.{Book}
use Rattle.bossx.specs.Kept.{IsBook}
use Rattle.bossx.proofs.LendingLemmas.{idle_after}
use Rattle.bossx.proofs.boss.Boss.let_go.Goals as goal

pub lose-requires-clause-held : goal.lose-requires-clause-held
lose-requires-clause-held c =
    let is = subst (λ (b : Book). of_grunt b.table.leases c.args.grunt ≡ Some c.in_ok-lease.lease) c.self.view_is (sym c.of_grunt.ensures ∙ c.in_ok-lease.was) in
    (found (λ x. x.grunt) c.args.self.now.table.leases c.args.grunt c.in_ok-lease.lease is).1

pub returns-clause-idle : goal.returns-clause-idle
returns-clause-idle c =
    let is = subst (λ (b : Book). of_grunt b.table.leases c.args.grunt ≡ Some c.in_ok-lease.lease) c.self.view_is (sym c.of_grunt.ensures ∙ c.in_ok-lease.was) in
    let book = subst IsBook c.self.view_is c.self.invariant.book in
    subst (λ (b : Book). of_grunt b.table.leases c.args.grunt ≡ None) (sym c.lose.ensures) (idle_after c.args.self.now c.args.grunt c.in_ok-lease.lease is book)
