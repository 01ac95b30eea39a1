use Rattle.std.proofs.Common.{◌≡◌, ℕ, Bool, take, slice_index}
use Rattle.std.specs.List.{All}
use Rattle.maxflow.specs.Crossings.{crossing, IsPair}
use Rattle.maxflow.proofs.network.joined.Given as goal

abbrev pub invariant-loop-entry : goal.invariant-loop-entry
invariant-loop-entry l = record {
  within : All (IsPair l.count) l.pairs.items;
  crossings : (p : ℕ → Bool) → crossing l.pairs.items p ≡ crossing (take l.entry-index l.entries) (λ k. p (slice_index l.numbers k));
}
