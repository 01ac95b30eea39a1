use Rattle.std.proofs.Common.{◌≡◌, ◌<◌, ◌≤◌, ℕ, ap, refl, subst, arith}
use Rattle.tspdef.specs.Sets.{IsProper}
use Rattle.cyc.specs.Frac.{Values}
use Rattle.sepsub.proofs.LeastLemmas.{home_is_least, turned_is_least, all_violated}
use Rattle.sepsub.proofs.swept_to.Goals as goal

some_of : (n m : ℕ) → n ≡ m → 3 ≤ n → 0 < m
some_of n m e h = omega arith

pub returns-then-is_proper-clause-least : goal.returns-then-is_proper-clause-least
returns-then-is_proper-clause-least c =
    let home = c.in_ok-home.home in
    let e = c.in_ok-home.ensures in
    home_is_least c.args.x.now c.in_ok-network.network c.in_ok-network.ensures.cities c.in_ok-network.ensures.weights (record { weight = 0; set = home }) refl
    e.cities (subst (λ n. IsProper n home.cities) e.cities (c.is_proper.ensures.0 c.if-is_proper.true)) e.holds e.apart

pub returns-then-is_proper-clause-sets : goal.returns-then-is_proper-clause-sets
returns-then-is_proper-clause-sets c =
    all_violated c.args.x.now c.in_ok-network.network c.in_ok-network.ensures.cities c.in_ok-network.ensures.weights c.in_ok-sets.sets.items c.in_ok-sets.ensures.light
