use Rattle.std.proofs.Common.{◌≡◌, ◌^◌, ◌≤◌, max, drop}
use Rattle.lpcheck.specs.Answers.{rows_fault}
use Rattle.lpcheck.proofs.check.rows_fault_of.Given as goal

abbrev pub invariant-loop-at : goal.invariant-loop-at
invariant-loop-at l = record { so_far : max l.most (rows_fault l.cols l.xs (drop l.at l.rows)) ≡ rows_fault l.cols l.xs l.rows; small : l.most ≤ 2 ^ 90 }
