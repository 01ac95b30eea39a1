use Rattle.std.proofs.Common.{rules}
use Rattle.treebook.specs.Tables.{tree_of}
use Rattle.certform.proofs.Walking.{walk_steps, walk_ends, top_is_node}
use Rattle.certform.proofs.preorder.preorder.Goals as goal

pub stack_children-requires : goal.stack_children-requires
stack_children-requires c = top_is_node c.args.tree.now.nodes c.loop-k.waiting.items c.pop.new.self.items c.in-Some.k c.loop-k.invariant.inside (search rules)

pub loop-k-smaller : goal.loop-k-smaller
loop-k-smaller c =
    (walk_steps c.n-n.result c.args.tree.now.fixed c.args.tree.now.nodes c.loop-k.order.items c.loop-k.waiting.items c.pop.new.self.items c.push-in-Some.new.self.items c.stack_children.new.waiting.items c.in-Some.k (tree_of c.args.tree.now.nodes)
    c.n-n.ensures.is_table c.loop-k.invariant.inside c.loop-k.invariant.goes (search rules) (search rules) (search rules)).less

pub loop-k-preserved : goal.loop-k-preserved
loop-k-preserved c =
    let s = walk_steps c.n-n.result c.args.tree.now.fixed c.args.tree.now.nodes c.loop-k.order.items c.loop-k.waiting.items c.pop.new.self.items c.push-in-Some.new.self.items c.stack_children.new.waiting.items c.in-Some.k (tree_of c.args.tree.now.nodes)
    c.n-n.ensures.is_table c.loop-k.invariant.inside c.loop-k.invariant.goes (search rules) (search rules) (search rules) in
    record { inside = s.inside; goes = s.goes }

pub returns : goal.returns
returns c = walk_ends c.args.tree.now.nodes c.loop-k.order.items c.loop-k.waiting.items (tree_of c.args.tree.now.nodes) (search rules) c.loop-k.invariant.goes
