use Rattle.lpcheck.proofs.Sweeps.{IsSwept}
use Rattle.lpcheck.proofs.rest.sweep.Given as goal

abbrev pub invariant-loop-at : goal.invariant-loop-at
invariant-loop-at l = IsSwept l.rows l.cols l.initial.ys l.ys l.rs l.any l.at
