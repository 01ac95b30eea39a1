use Rattle.std.proofs.Common.{arith}
use Rattle.treebook.proofs.NodeLemmas.{nodes_of-set}
use Rattle.treebook.proofs.tree.settle.Goals as goal

pub returns-clause-items : goal.returns-clause-items
returns-clause-items c = nodes_of-set c.args.nodes.now.items c.args.node c.index_mut.result.now c.args.state (omega (arith, c.args.nodes.now.ok.0)) c.index_mut.ensures.value
