use Rattle.std.proofs.Common.{◌≤◌, ℕ, arith}
use Rattle.cyc.specs.Frac.{Values}
use Rattle.sepodd.specs.Sides.{IsBelowOdd}
use Rattle.sepodd.proofs.LowerLemmas.{below_all}
use Rattle.sepodd.proofs.best_side.Goals as goal

odd_less : (x : Values) (old new : ℕ) → new ≤ old → IsBelowOdd x (λ k. k) old → IsBelowOdd x (λ k. k) new
odd_less x old new l below p o = let z = below p o in omega (arith, z, l)

pub returns-clause-least : goal.returns-clause-least
returns-clause-least c =
    let x = c.args.x.now in
    let w = c.in_ok-best-3.best.weight in
    below_all x w c.entries-entries.ensures.entries c.requires.small c.in_ok-best-3.ensures.best.most
    (odd_less x c.in_ok-best-2.best.weight w c.in_ok-best-3.ensures.no_more c.in_ok-best-2.ensures.least) c.in_ok-best-3.ensures.least
