use Rattle.std.proofs.Common.{arith}
use Rattle.std.proofs.lemmas.Int.{ints}
use Rattle.onetree.specs.OneTrees.{reduced}
use Rattle.onetree.proofs.Home.{near_new, near_kept}
use Rattle.onetree.proofs.tree.nearer_to_home.Goals as goal

pub returns-then-v-but : goal.returns-then-v-but
returns-then-v-but c = near_kept c.args.instance.now.n (reduced c.args.instance.now c.args.duals.now) c.args.but c.args.v c.args.best c.requires.best (λ ne. absurd (omega arith))

pub returns-then-cost : goal.returns-then-cost
returns-then-cost c =
    near_new c.args.instance.now.n (reduced c.args.instance.now c.args.duals.now) c.args.but c.args.v c.args.best c.requires.best c.requires.some c.requires.v (λ e. omega arith)
    (let a = c.cost.ensures.value in let b = c.cost-2.ensures.value in omega (arith, ints))

pub returns-else-cost : goal.returns-else-cost
returns-else-cost c =
    near_kept c.args.instance.now.n (reduced c.args.instance.now c.args.duals.now) c.args.but c.args.v c.args.best c.requires.best
    (λ ne. let a = c.cost.ensures.value in let b = c.cost-2.ensures.value in omega (arith, ints))
