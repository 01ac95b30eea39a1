use Rattle.std.proofs.Common.{◌≡◌, ◌%◌, ◌^◌, ◌∙◌, ap, arith}
use Rattle.std.proofs.lemmas.List.{take_all}
use Rattle.maxflow.specs.Crossings.{crossing}
use Rattle.maxflow.specs.Shrinking.{in_group}
use Rattle.maxflow.proofs.CrossingLemmas.{crossing_small}
use Rattle.maxflow.proofs.ShrinkLemmas.{exact}
use Rattle.maxflow.proofs.groups.weight_of.Goals as goal
use Rattle.maxflow.proofs.groups.weight_of.Goals.{After-loop-entry}

value : (c : After-loop-entry) → c.loop-entry.weight ≡ crossing c.args.entries.now (in_group c.args.groups.now c.args.a)
value c =
    let es = c.args.entries.now in
    let p = in_group c.args.groups.now c.args.a in
    exact c.loop-entry.weight (crossing es p) (c.loop-entry.invariant ∙ ap (λ v. crossing v p % 2 ^ 64) (take_all c.loop-entry.entry-index es c.loop-entry-test.false))
    (crossing_small c.args.n es p c.requires.few c.requires.entries)

pub returns-clause-value : goal.returns-clause-value
returns-clause-value c = value c

pub returns-clause-small : goal.returns-clause-small
returns-clause-small c =
    let v = value c in
    let s = crossing_small c.args.n c.args.entries.now (in_group c.args.groups.now c.args.a) c.requires.few c.requires.entries in
    omega (arith, v, s)
