use Rattle.std.proofs.Common.{ℕ, sym, subst}
use Rattle.bossx.specs.Books.{Book}
use Rattle.tspround.specs.Rounds.{IsReached}
use Rattle.tspround.proofs.Holding.{opens}
use Rattle.tspround.proofs.held.Held.begin.Goals as goal

pub invariant_of-result : goal.invariant_of-result
invariant_of-result g c =
    let S = g.W.Worker.splits in
    let b = c.args.boss in
    subst (λ (x : Book). IsReached S x b c.args.ledgers.grants.total c.args.ledgers.takes.total) c.requires.opening
    (subst (λ (k : ℕ). IsReached S b b k c.args.ledgers.takes.total) (sym c.requires.granted)
    (subst (λ (k : ℕ). IsReached S b b 0 k) (sym c.requires.taken) (opens S b c.requires.splits)))
