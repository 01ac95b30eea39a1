use Rattle.std.proofs.Common.{◌≡◌, ◌<◌, ◌+◌, ℕ}
use Rattle.flips.specs.Places.{wrap}
use Rattle.flips.proofs.Mirrors.{Mirrored}
use Rattle.flips.proofs.places.Places.reverse_places.Given as goal

abbrev pub invariant-loop-done : goal.invariant-loop-done
invariant-loop-done l = record {
  low_in : l.low < l.self.n;
  high_in : l.high < l.self.n;
  size : l.self.n ≡ l.fn.self.n;
  low : l.low ≡ wrap l.fn.self.n (l.start + l.done);
  high : (j : ℕ) → l.done + j + 1 ≡ l.count → l.high ≡ wrap l.fn.self.n (l.start + j);
  mirrored : Mirrored l.fn.self.n l.start l.count l.done l.fn.self.order.items l.self.order.items;
}
