use Rattle.std.proofs.Common.{List, sym, subst}
use Rattle.tspdef.specs.Instances.{length_in}
use Rattle.tspdef.specs.Paths.{root}
use Rattle.treebook.specs.Tables.{Node, tree_of}
use Rattle.bossx.specs.Books.{Start}
use Rattle.tspround.specs.Splits.{SplitSince, kinds_of}
use Rattle.tspround.proofs.Growing.{grown_same}
use Rattle.tspround.proofs.laws.nothing_is_split_at_the_start.Goals as goal

pub returns : goal.returns
returns g c = λ i t tour most count miss b is.
    let S = g.W.Worker.splits in
    subst (λ (s : Start). SplitSince S b.instance s.length b.gap (tree_of s.nodes) (tree_of b.tree.nodes)) (sym is.start)
    (subst (λ (nodes : List Node). SplitSince S b.instance (length_in i tour) b.gap (tree_of t.nodes) (tree_of nodes)) (sym is.nodes)
    (grown_same (kinds_of S b.instance (length_in i tour) b.gap) (root b.instance) (tree_of t.nodes)))
