use Rattle.std.proofs.Common.{arith}
use Rattle.std.proofs.lemmas.List.{length-map}
use Rattle.treebook.specs.Tree.{node_of, nodes_of}
use Rattle.treebook.proofs.KeptLemmas.{closed_in, closed_keeps, front_from}
use Rattle.treebook.proofs.tree.Tree.close.Goals as goal

pub overflow_sub-self : goal.overflow_sub-self
overflow_sub-self c =
    (closed_in c.self.inside c.args.self.now (nodes_of c.settle.new.nodes.items) c.args.node c.args.closing c.self.view_is c.self.invariant c.requires.is_open c.requires.fits c.settle.ensures.items).some

pub overflow_add-self : goal.overflow_add-self
overflow_add-self c =
    let all = c.self.invariant.counts.all in let few = c.self.invariant.few in let ok = c.self.inside.nodes.ok.0 in
    let len = length-map c.self.inside.nodes.items node_of in
    let some = (closed_in c.self.inside c.args.self.now (nodes_of c.settle.new.nodes.items) c.args.node c.args.closing c.self.view_is c.self.invariant c.requires.is_open c.requires.fits c.settle.ensures.items).some in
    omega arith

pub invariant_of-self : goal.invariant_of-self
invariant_of-self c =
    let closed = closed_in c.self.inside c.args.self.now (nodes_of c.settle.new.nodes.items) c.args.node c.args.closing c.self.view_is c.self.invariant c.requires.is_open c.requires.fits c.settle.ensures.items in
    let next = c.next_open-self-inside.ensures in
    let len = c.settle.ensures.len in let capacity = c.settle.ensures.capacity in let room = c.self.invariant.room in let few = c.self.invariant.few in
    record {
      is_table = closed.is_table;
      counts = closed.counts;
      front = front_from c.deref.result.now c.settle.new.nodes.items c.self.inside.front c.next_open-self-inside.result c.deref.ensures.value closed.none_before next.within next.none_before next.is_open;
      room = omega arith;
      few = omega arith;
    }

pub returns-clause-keeps : goal.returns-clause-keeps
returns-clause-keeps c =
    closed_keeps c.tables_cover.ensures.closing c.tables_are_sound.ensures.closing c.self.inside c.args.self.now (nodes_of c.settle.new.nodes.items) c.args.node c.args.closing c.self.view_is c.self.invariant c.requires.is_open c.requires.fits c.settle.ensures.items
