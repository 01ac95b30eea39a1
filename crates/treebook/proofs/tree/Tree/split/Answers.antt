use Rattle.std.proofs.Common.{◌≡◌, arith, ap}
use Rattle.std.proofs.lemmas.List.{length-map}
use Rattle.treebook.specs.Tables.{split_at}
use Rattle.treebook.specs.Tree.{Table, branch_of, node_of, nodes_of}
use Rattle.treebook.proofs.KeptLemmas.{split_in, split_keeps, split_items, front_from}
use Rattle.treebook.proofs.tree.Tree.split.Goals as goal

-- the nodes are those of the split table
items : (c : goal.After-self-4-1) → nodes_of c.put-2.new.nodes.items ≡ split_at (nodes_of c.self.inside.nodes.items) c.args.node (branch_of c.args.branch)
items c =
    let all = length-map c.self.inside.nodes.items node_of in
    let ok = c.self.inside.nodes.ok.0 in
    let child = c.len-child.ensures in
    split_items (nodes_of c.self.inside.nodes.items) (nodes_of c.settle.new.nodes.items) (nodes_of c.put.new.nodes.items) (nodes_of c.put-2.new.nodes.items) c.args.node (branch_of c.args.branch)
    (node_of c.open_under.result) (node_of c.open_under-2.result) c.len-child.result (omega arith)
    c.settle.ensures.items c.put.ensures.items c.put-2.ensures.items c.open_under.ensures c.open_under-2.ensures

pub invariant_of-self : goal.invariant_of-self
invariant_of-self c =
    let split = split_in c.self.inside c.args.self.now (nodes_of c.put-2.new.nodes.items) c.args.node (branch_of c.args.branch) c.self.view_is c.self.invariant c.requires.is_open c.requires.fits (items c) in
    let next = c.next_open-self-inside.ensures in
    let len = c.settle.ensures.len in let len1 = c.put.ensures.len in let len2 = c.put-2.ensures.len in
    let capacity = c.settle.ensures.capacity in let capacity1 = c.put.ensures.capacity in let capacity2 = c.put-2.ensures.capacity in
    let room = c.self.invariant.room in let few = c.self.invariant.few in
    let view = ap (λ (t : Table). t.room) c.self.view_is in let two = c.requires.room in
    record {
      is_table = split.is_table;
      counts = split.counts;
      front = front_from c.deref.result.now c.put-2.new.nodes.items c.self.inside.front c.next_open-self-inside.result c.deref.ensures.value split.none_before next.within next.none_before next.is_open;
      room = omega arith;
      few = omega arith;
    }

pub returns-clause-keeps : goal.returns-clause-keeps
returns-clause-keeps c =
    split_keeps c.tables_cover.ensures.splitting c.tables_are_sound.ensures.splitting c.self.inside c.args.self.now (nodes_of c.put-2.new.nodes.items) c.args.node (branch_of c.args.branch) c.self.view_is c.self.invariant c.requires.is_open c.requires.fits (items c)
