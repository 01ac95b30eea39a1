use Rattle.std.proofs.Common.{◌≡◌, subst, arith}
use Rattle.sepodd.specs.Folding.{one}
use Rattle.sepodd.specs.Odd.{IsBelowAll}
use Rattle.sepodd.proofs.least_cut.Goals as goal

pub returns-then-best-from : goal.returns-then-best-from
returns-then-best-from c =
    let w = c.args.best.now.weight in
    let most = c.requires.best.most in
    let full = c.if-best-from.true in
    let value = c.from.ensures in
    let same : w ≡ one = omega (arith, most, full, value) in
    subst (IsBelowAll c.args.x.now) same c.requires.least
