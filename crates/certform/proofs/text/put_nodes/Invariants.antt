use Rattle.std.proofs.Common.{◌≡◌, ◌++◌, drop}
use Rattle.certform.specs.Lines.{said}
use Rattle.certform.specs.Listing.{AreReady}
use Rattle.certform.specs.Walks.{node_items}
use Rattle.certform.proofs.Loops.{cuts_in}
use Rattle.certform.proofs.text.put_nodes.Given as goal

abbrev pub invariant-loop-k : goal.invariant-loop-k
invariant-loop-k l = record {
  ready : AreReady (cuts_in l.cuts.keys) l.tree.nodes (drop l.k-index l.order);
  items : l.out.items ++ said (node_items (cuts_in l.cuts.keys) l.tree.nodes (drop l.k-index l.order)) ≡ l.initial.out.items ++ said (node_items (cuts_in l.cuts.keys) l.tree.nodes l.order);
}
