use Rattle.std.proofs.Common.{List, ap, subst, arith, length}
use Rattle.std.proofs.lemmas.List.{length-map}
use Rattle.treebook.specs.Tables.{Node, IsAbove}
use Rattle.treebook.specs.Tree.{Table, node_of}
use Rattle.pricer.specs.Trails.{condition_of}
use Rattle.treebook.proofs.WalkLemmas.{reads_above, is_above}
use Rattle.treebook.proofs.tree.Tree.above.Goals as goal

pub index-requires-2 : goal.index-requires-2
index-requires-2 c =
    let view = ap (λ (t : Table). t.nodes) c.self.view_is in
    let len = length-map c.self.inside.nodes.items node_of in
    let same = ap length view in
    let within = c.requires in
    let ok = c.self.inside.nodes.ok.0 in
    let behind = (reads_above c.self.inside.n c.self.inside.fixed.items c.self.inside.nodes.items c.args.node c.index.result.now c.self.invariant.is_table c.if-node-eq0.false (omega arith) c.index.ensures).behind in
    omega arith

pub condition_under-requires : goal.condition_under-requires
condition_under-requires c =
    let view = ap (λ (t : Table). t.nodes) c.self.view_is in
    let len = length-map c.self.inside.nodes.items node_of in
    let same = ap length view in
    let within = c.requires in
    (reads_above c.self.inside.n c.self.inside.fixed.items c.self.inside.nodes.items c.args.node c.index.result.now c.self.invariant.is_table c.if-node-eq0.false (omega arith) c.index.ensures).child c.index-2.result.now c.index-2.ensures

pub returns-in-Some : goal.returns-in-Some
returns-in-Some c =
    let view = ap (λ (t : Table). t.nodes) c.self.view_is in
    let len = length-map c.self.inside.nodes.items node_of in
    let same = ap length view in
    let within = c.requires in
    subst (λ (ns : List Node). IsAbove ns c.args.node c.index.result.now.parent (condition_of c.in-Some.step)) view
    (is_above c.self.inside.n c.self.inside.fixed.items c.self.inside.nodes.items c.args.node c.index.result.now c.index-2.result.now (condition_of c.in-Some.step) c.self.invariant.is_table c.if-node-eq0.false (omega arith) c.index.ensures c.index-2.ensures
    (let e = c.in-Some.ensures in cc))
