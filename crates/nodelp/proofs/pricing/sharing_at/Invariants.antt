use Rattle.std.proofs.Common.{◌≡◌, ◌*◌, ◌^◌, drop, pos, neg_ℤ, ◌≤ℤ◌, ◌+ℤ◌}
use Rattle.nodelp.specs.Holding.{sharing_at}
use Rattle.nodelp.proofs.pricing.sharing_at.Given as goal

abbrev pub invariant-loop-i : goal.invariant-loop-i
invariant-loop-i l = record {
  so_far : l.total +ℤ sharing_at l.rows l.ys (drop l.i l.places) l.u l.v ≡ sharing_at l.rows l.ys l.places l.u l.v;
  low : neg_ℤ (pos (2 ^ 78 * l.i)) ≤ℤ l.total;
  high : l.total ≤ℤ pos (2 ^ 78 * l.i);
}
