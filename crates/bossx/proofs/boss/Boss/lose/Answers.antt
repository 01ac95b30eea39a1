use Rattle.std.proofs.Common.{rules, arith, ◌≡◌, ◌<◌, ◌∙◌, true, Some, length, sym, ap, subst, w64, to_z, of_z}
use Rattle.std.proofs.lemmas.Int.{ints}
use Rattle.leasebook.specs.Leases.{is_held, lease_at}
use Rattle.bossx.specs.Books.{Book}
use Rattle.bossx.proofs.Kept.{lose_kept}
use Rattle.bossx.proofs.boss.Boss.lose.Goals as goal

pub invariant_of-self : goal.invariant_of-self
invariant_of-self c =
    let within = subst (λ (b : Book). c.args.lease < length b.table.leases) (sym c.self.view_is) c.requires.known in
    let is = subst (λ (b : Book). is_held (lease_at b.table.leases c.args.lease) ≡ true) (sym c.self.view_is) c.requires.held in
    let same : to_z w64 (of_z w64 c.key-key.result) ≡ c.key-key.result = omega (arith, ints) in
    lose_kept c.self.inside c.args.lease c.node_of-node.result c.key-key.result c.end.new.self c.set.new.self c.self.invariant within is
    c.node_of-node.ensures.node (search rules) c.end.ensures c.set.ensures.size (c.set.ensures.here ∙ ap Some same) c.set.ensures.others
