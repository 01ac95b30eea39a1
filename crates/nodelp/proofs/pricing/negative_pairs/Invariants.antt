use Rattle.std.proofs.Common.{◌≡◌, ℕ, ◌<◌, length}
use Rattle.std.specs.List.{All}
use Rattle.nodelp.specs.Core.{IsNegative}
use Rattle.nodelp.specs.Pricing.{IsPassed}
use Rattle.nodelp.proofs.pricing.negative_pairs.Given as goal

abbrev pub invariant-loop-v : goal.invariant-loop-v
invariant-loop-v l = record {
  negative : All (IsNegative l.instance l.path.conditions l.lp) l.found.items;
  passed : length l.found.items ≡ 0 → (a b : ℕ) → a < b → b < l.v → IsPassed l.instance l.path.conditions l.lp a b;
}
