use Rattle.std.proofs.Common.{◌∙◌, arith}
use Rattle.sepodd.proofs.StepLemmas.{groups_alone, below_alone}
use Rattle.sepodd.proofs.uncrossing.odd_sides.Goals as goal

pub least_of_groups-requires-clause-groups : goal.least_of_groups-requires-clause-groups
least_of_groups-requires-clause-groups c =
    let size = c.n-n.ensures.value in
    let entries = c.entries-entries.ensures.entries in
    groups_alone c.args.x.now c.in_ok-numbers.numbers.items c.in_ok-groups.groups.items entries.each (c.in_ok-numbers.ensures.size ∙ size)
    (λ k h. c.in_ok-numbers.ensures.each k (omega (arith, size, h))) c.in_ok-groups.ensures.odd c.in_ok-groups.ensures.below

pub returns-clause-least : goal.returns-clause-least
returns-clause-least c =
    let size = c.n-n.ensures.value in
    let entries = c.entries-entries.ensures.entries in
    below_alone c.args.x.now c.in_ok-numbers.numbers.items c.in_ok-best.best.weight entries.each (λ k h. c.in_ok-numbers.ensures.each k (omega (arith, size, h))) c.in_ok-best.ensures.least
