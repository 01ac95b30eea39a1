use Rattle.std.proofs.Common.{◌≡◌, ℕ, ◌<◌, ◌≤◌, length}
use Rattle.std.specs.List.{All}
use Rattle.nodelp.specs.Core.{IsNegative}
use Rattle.nodelp.specs.Pricing.{IsPassed}
use Rattle.nodelp.proofs.pricing.add_wanting_of.Given as goal

abbrev pub invariant-loop-u : goal.invariant-loop-u
invariant-loop-u l = record {
  negative : All (IsNegative l.instance l.path.conditions l.lp) l.found.items;
  longer : length l.initial.found.items ≤ length l.found.items;
  passed : length l.found.items ≡ 0 → (a : ℕ) → a < l.u → IsPassed l.instance l.path.conditions l.lp a l.v;
}
