use Rattle.std.proofs.Common.{◌≡◌, ◌<◌, ◌≤◌, ◌+◌, ℕ, length}
use Rattle.std.specs.Prelude.{slice_index}
use Rattle.fracgraph.specs.Labels.{IsFirst}
use Rattle.fracgraph.proofs.classes.nexts_of.Given as goal

abbrev pub invariant-loop-city : goal.invariant-loop-city
invariant-loop-city l = record {
  firsts_long : length l.firsts.items ≡ l.n;
  nexts_long : length l.nexts.items ≡ l.n;
  firsts : (label : ℕ) → label < l.n → IsFirst l.n l.labels label l.city (slice_index l.firsts.items label);
  nexts : (c : ℕ) → l.city ≤ c → c < l.n → IsFirst l.n l.labels (slice_index l.labels c) (c + 1) (slice_index l.nexts.items c);
}
