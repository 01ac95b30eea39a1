use Rattle.std.proofs.Common.{◌≡◌, ℕ, sym, ◌∙◌, ap, subst, arith, ⊎_elim}
use Rattle.std.proofs.lemmas.Bool.{cases_lt, false≢true}
use Rattle.treebook.specs.Tables.{Node, open_node, state_at}
use Rattle.treebook.specs.Tree.{nodes_of}
use Rattle.treebook.proofs.NodeLemmas.{node_at-nodes_of}
use Rattle.treebook.proofs.tree.next_open.Goals as goal

pub loop-k-preserved : goal.loop-k-preserved
loop-k-preserved c = λ j x y e. ⊎_elim
    (λ l. c.loop-k.invariant j x l e)
    (λ l.
    let same : j ≡ c.loop-k.k = omega arith in
    let here = ap (λ (z : Node). z.state) (node_at-nodes_of c.args.nodes.now c.loop-k.k c.index-nodes-k.result c.loop-k-test.true) in
    false≢true (c.if-is_open.ensures.1 (sym here ∙ subst (λ (i : ℕ). state_at (nodes_of c.args.nodes.now) i ≡ open_node) same e)))
    (cases_lt j c.loop-k.k)
