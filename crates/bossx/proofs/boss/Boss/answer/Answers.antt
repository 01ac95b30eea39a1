use Rattle.std.proofs.Common.{arith, ◌≡◌, subst}
use Rattle.bossx.specs.Books.{Book, best_length}
use Rattle.bossx.specs.Steps.{IsNext}
use Rattle.bossx.proofs.Kept.{next_of}
use Rattle.bossx.proofs.boss.Boss.answer.Goals as goal

pub lend-lease-requires-clause-next : goal.lend-lease-requires-clause-next
lend-lease-requires-clause-next c =
    let within = c.self.invariant.book.charged.within in
    subst (λ (b : Book). IsNext b c.in-Some.node) c.self.view_is
    (next_of c.self.inside c.in-Some.node c.self.invariant c.in-Some.ensures (omega arith) (omega arith) (omega arith) (omega arith))

pub returns : goal.returns
returns c =
    let within = c.self.invariant.book.charged.within in (
      subst (λ (b : Book). IsNext b c.in-Some.node) c.self.view_is
          (next_of c.self.inside c.in-Some.node c.self.invariant c.in-Some.ensures (omega arith) (omega arith) (omega arith) (omega arith)),
      c.lend-lease.ensures.lease,
      subst (λ (b : Book). c.self.inside.length ≡ best_length b) c.self.view_is c.self.invariant.long,
      c.lend-lease.ensures.after,
    )
