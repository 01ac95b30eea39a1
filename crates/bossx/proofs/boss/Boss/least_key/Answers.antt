use Rattle.std.proofs.Common.{subst, rules}
use Rattle.bossx.specs.Books.{Book}
use Rattle.bossx.specs.Steps.{IsFirstFree}
use Rattle.bossx.specs.BossInside.{book_of}
use Rattle.bossx.proofs.FreeLemmas.{least_is_first}
use Rattle.bossx.proofs.boss.Boss.least_key.Goals as goal

pub returns-in-Some-clause-some : goal.returns-in-Some-clause-some
returns-in-Some-clause-some c = (
  c.in-Some.node,
  subst (λ (b : Book). IsFirstFree b c.in-Some.node) c.self.view_is (least_is_first (book_of c.self.inside) c.self.inside.free c.in-Some.node c.self.invariant.free c.in-Some.ensures),
  search (rules, c.key.ensures),
)
