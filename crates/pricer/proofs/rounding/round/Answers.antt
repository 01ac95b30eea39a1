use Rattle.std.proofs.Common.{◌≡◌, subst, sym, arith}
use Rattle.tspdef.specs.Closings as defs
use Rattle.pricer.specs.Rounds.{rounded}
use Rattle.pricer.proofs.RoundLemmas.{rounded_counts, rounded_sizes}
use Rattle.pricer.proofs.rounding.round.Goals as goal

pub returns-clause-counts : goal.returns-clause-counts
returns-clause-counts c =
    let is : c.new.result ≡ rounded c.args.n c.args.city.now c.args.cuts.items c.args.conds.items = grind (arith, c.new.ensures, c.in_ok-round_cities.ensures, c.in_ok-round_positive.ensures, c.in_ok-round_positive-2.ensures) in
    subst (defs.HasCounts c.args.n) (sym is) (rounded_counts c.args.n c.args.city.now c.args.cuts.items c.args.conds.items)

pub returns-clause-sizes : goal.returns-clause-sizes
returns-clause-sizes c =
    let is : c.new.result ≡ rounded c.args.n c.args.city.now c.args.cuts.items c.args.conds.items = grind (arith, c.new.ensures, c.in_ok-round_cities.ensures, c.in_ok-round_positive.ensures, c.in_ok-round_positive-2.ensures) in
    subst defs.HasSizes (sym is) (rounded_sizes c.args.n c.args.city.now c.args.cuts.items c.args.conds.items)
