use Rattle.std.proofs.Common.{◌≡◌, ℕ, cond, List, [], length}
use Rattle.std.specs.Prelude.{Ok, Result}
use Rattle.tspinst.specs.declared.refusals.Refusal.{Refusal}
use Rattle.tspinst.specs.Headers.{Token}
use Rattle.tspinst.specs.Sections.{edges_from, edges_read}
use Rattle.tspinst.proofs.edges.read_edges.Given as goal

abbrev pub invariant-loop-more : goal.invariant-loop-more
invariant-loop-more l = record {
  same : l.fixing.n ≡ l.n;
  rest : ◌≡◌ {A = Result (List (ℕ × ℕ) × List Token) Refusal} (cond l.more (edges_from l.n (length l.words) l.fixing.pairs l.words) (Ok (l.fixing.pairs, l.words))) (edges_read l.n l.fn.words);
}

abbrev pub decreases-loop-more : goal.decreases-loop-more
decreases-loop-more l = length l.words
