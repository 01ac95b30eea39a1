use Rattle.std.proofs.Common.{◌≡◌, drop}
use Rattle.lpcheck.specs.Added.{any_below}
use Rattle.lpcheck.proofs.added.falls_any.Given as goal

abbrev pub invariant-loop-at : goal.invariant-loop-at
invariant-loop-at l = any_below (drop l.at l.rs) ≡ any_below (drop l.from l.rs)
