use Rattle.std.proofs.Common.{sym, subst, arith}
use Rattle.tspdef.specs.Instances.{Instance}
use Rattle.tspdef.specs.Trees.{IsSoundFor}
use Rattle.treebook.specs.Tables.{tree_of}
use Rattle.treebook.specs.Tree.{Table}
use Rattle.bossx.specs.Books.{level}
use Rattle.tspengine.proofs.outcomes.bound_of.Goals as goal

pub greatest_bound-requires-clause-sound : goal.greatest_bound-requires-clause-sound
greatest_bound-requires-clause-sound c =
    let b = c.args.boss.now in
    let sound : IsSoundFor b.instance 0 (tree_of b.tree.nodes) = (c.tables_are_sound.ensures.less b.instance (level b) 0 (tree_of b.tree.nodes) (omega arith)).sound c.snapshot.ensures.book.sound in
    subst (λ (t : Table). IsSoundFor c.instance.result.now 0 (tree_of t.nodes)) (sym c.snapshot.ensures.tree)
    (subst (λ (i : Instance). IsSoundFor i 0 (tree_of b.tree.nodes)) (sym c.instance.ensures) sound)
