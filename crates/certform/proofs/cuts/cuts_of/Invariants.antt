use Rattle.std.proofs.Common.{◌≡◌, ◌<◌, length, drop}
use Rattle.std.specs.Prelude.{fold}
use Rattle.std.specs.List.{AllByRecursion}
use Rattle.treebook.specs.Tables.{state_at}
use Rattle.certform.specs.Walks.{with_state_cuts, node_cuts}
use Rattle.certform.proofs.Loops.{cuts_in}
use Rattle.certform.proofs.cuts.cuts_of.Given as goal

abbrev pub invariant-loop-k : goal.invariant-loop-k
invariant-loop-k l = record {
  within : AllByRecursion (λ k. k < length l.tree.nodes) (drop l.k-index l.order);
  cuts : fold (λ cs k. with_state_cuts cs (state_at l.tree.nodes k)) (cuts_in l.cuts.keys) (drop l.k-index l.order) ≡ node_cuts l.tree.nodes l.order;
}
