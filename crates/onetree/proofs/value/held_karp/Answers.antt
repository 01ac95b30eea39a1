use Rattle.std.proofs.Common.{refl, sym, ap, arith}
use Rattle.std.specs.Prelude.{◌+ℤ◌}
use Rattle.std.proofs.lemmas.Int.{ints}
use Rattle.tspdef.specs.Sums.{sum_below}
use Rattle.onetree.specs.OneTrees.{dual_of}
use Rattle.onetree.proofs.value.held_karp.Goals as goal

pub returns-clause-value : goal.returns-clause-value
returns-clause-value c =
    let t = c.in_ok-tree in
    let s = c.sum_of-sum.ensures.value in
    let n = ap (sum_below (dual_of c.args.duals.now)) c.n.ensures.same in
    let a = t.ensures.size in
    let b = c.sum_of-sum.ensures.size in
    (t.tree.weight, ((t.tree.pairs.items, t.ensures.tree, sym t.ensures.weight), t.ensures.least), omega (arith, ints))

pub returns-clause-below : goal.returns-clause-below
returns-clause-below c = λ tour is.
    let t = c.in_ok-tree in
    let s = c.sum_of-sum.ensures.value in
    let n = ap (sum_below (dual_of c.args.duals.now)) c.n.ensures.same in
    let a = t.ensures.size in
    let b = c.sum_of-sum.ensures.size in
    let low = c.tours_are_one_trees.ensures.below c.args.instance.now c.args.duals.now (t.tree.weight +ℤ sum_below (dual_of c.args.duals.now) c.args.instance.now.n +ℤ sum_below (dual_of c.args.duals.now) c.args.instance.now.n) tour c.n.ensures.instance.many is
    (t.tree.weight, ((t.tree.pairs.items, t.ensures.tree, sym t.ensures.weight), t.ensures.least), refl) in
    omega (arith, ints)
