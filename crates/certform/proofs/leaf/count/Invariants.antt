use Rattle.std.proofs.Common.{◌≡◌, ◌+◌, length, drop}
use Rattle.certform.specs.Written.{written_cities}
use Rattle.certform.proofs.leaf.count.Given as goal

abbrev pub invariant-loop-dual : goal.invariant-loop-dual
invariant-loop-dual l = l.count + length (written_cities (l.dual-index + 1) (drop l.dual-index l.duals)) ≡ length (written_cities 1 l.duals)
