use Rattle.std.proofs.Common.{◌≡◌, ◌+◌, ℕ, List, length, subst, ◌∙◌}
use Rattle.tspdef.specs.Instances.{Instance}
use Rattle.tspdef.specs.Trees.{open_leaves, settled}
use Rattle.treebook.specs.Tables.{tree_of}
use Rattle.treebook.specs.Tree.{Table}
use Rattle.certform.specs.Written.{IsBody}
use Rattle.tspengine.proofs.Writing.{text_of_book}
use Rattle.tspengine.proofs.outcomes.text_of.Goals as goal

pub returns : goal.returns
returns c =
    let b = c.args.boss.now in
    let bound = c.bound_of-bound.result in
    let bytes = c.in_ok-bytes.bytes.items in
    let tour = c.snapshot.result.0.now in
    let of_tree = c.snapshot.ensures.tree in
    let counted = subst (λ (t : Table). open_leaves (tree_of t.nodes) + settled (tree_of t.nodes) ≡ length t.nodes) of_tree (c.nodes-count.ensures.counted ∙ c.nodes-count.ensures.number) in
    let said = subst (λ (t : Table). IsBody b.instance b.best bound (tree_of t.nodes) bytes) of_tree
    (subst (λ (cities : List ℕ). IsBody b.instance cities bound (tree_of c.snapshot.result.1.now.nodes) bytes) c.snapshot.ensures.tour
    (subst (λ (i : Instance). IsBody i tour bound (tree_of c.snapshot.result.1.now.nodes) bytes) c.instance-2.ensures c.in_ok-bytes.ensures)) in
    text_of_book c.written_is_faithful.ensures c.tables_fit.ensures.accepted c.tables_fit.ensures.fit c.tours_are_cycles.ensures.same c.tables_are_sound.ensures.less
    b bound bytes c.snapshot.ensures.book c.requires counted c.bound_of-bound.ensures said
