use Rattle.std.proofs.Common.{◌≡◌, ℕ, ◌+◌, length, sym, subst, arith}
use Rattle.leasebook.specs.Log.{Table}
use Rattle.bossx.specs.Laws.{granted_with}
use Rattle.tspround.specs.Rounds.{Holding, IsReached, MayComeIn}
use Rattle.tspround.proofs.Holding.{reached_by}
use Rattle.tspround.proofs.held.Held.act.Goals as goal

pub invariant_of-self : goal.invariant_of-self
invariant_of-self g c =
    let S = g.W.Worker.splits in
    let b = c.self.inside.boss in
    let new = c.act-reply.new.self in
    let fair = subst (λ (h : Holding). MayComeIn S h.book c.args.event) (sym c.self.view_is) c.requires.may in
    let reached = reached_by c.tables_are_trees.ensures.leaves c.tables_grow.ensures.closing c.tables_grow.ensures.splitting c.events_are_charged.ensures.step S g.J.Opening.book b new c.args.event
    c.act-reply.result c.self.inside.ledgers.grants.total c.self.inside.ledgers.takes.total c.snapshot-book.ensures.book.tree c.act-reply.ensures fair c.self.invariant in
    subst (λ (k : ℕ). IsReached S g.J.Opening.book new k c.count.new.ledgers.takes.total) (sym c.count.ensures.granted)
    (subst (λ (k : ℕ). IsReached S g.J.Opening.book new (c.self.inside.ledgers.grants.total + granted_with c.act-reply.result) k) (sym c.count.ensures.taken) reached)

pub returns-clause-few_grants : goal.returns-clause-few_grants
returns-clause-few_grants g c = let k = (invariant_of-self g c).granted in let small = c.count.ensures.few_grants in let few = c.grants-grants.type_inv in
    let many = subst (λ (t : Table). c.grants-grants.result ≡ length t.leases) c.leases.ensures.table c.grants-grants.ensures in omega (arith, few, many)

pub returns-clause-few_takes : goal.returns-clause-few_takes
returns-clause-few_takes g c = let k = (invariant_of-self g c).taken in let small = c.count.ensures.few_takes in let many = c.settled-settled.ensures.value in omega arith

pub returns-clause-start : goal.returns-clause-start
returns-clause-start g c = (invariant_of-self g c).start
