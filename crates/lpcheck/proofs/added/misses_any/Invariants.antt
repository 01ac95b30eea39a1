use Rattle.std.proofs.Common.{◌≡◌, drop}
use Rattle.lpcheck.specs.Added.{any_missed}
use Rattle.lpcheck.proofs.added.misses_any.Given as goal

abbrev pub invariant-loop-at : goal.invariant-loop-at
invariant-loop-at l = any_missed l.cols l.xs (drop l.at l.rows) ≡ any_missed l.cols l.xs (drop l.from l.rows)
