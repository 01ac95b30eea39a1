use Rattle.std.proofs.Common.{◌≡◌, ◌^◌, ◌≤◌, max, drop}
use Rattle.lpcheck.specs.Answers.{boxes_fault}
use Rattle.lpcheck.proofs.check.boxes_fault_of.Given as goal

abbrev pub invariant-loop-at : goal.invariant-loop-at
invariant-loop-at l = record { so_far : max l.most (boxes_fault (drop l.at l.cols) (drop l.at l.xs)) ≡ boxes_fault l.cols l.xs; small : l.most ≤ 2 ^ 90 }
