use Rattle.std.proofs.Common.{◌≡◌, ◌+◌, ◌≤◌, vec_len, vec_capacity}
use Rattle.tspround.specs.Rounds.{granted_by, taken_by}
use Rattle.tspround.proofs.round.gather.Given as goal

abbrev pub invariant-loop-seat : goal.invariant-loop-seat
invariant-loop-seat g l =
    (l.all.grants.parts + vec_len l.seats ≡ l.fn.all.grants.parts + vec_len l.fn.seats) × (l.all.takes.parts + vec_len l.seats ≡ l.fn.all.takes.parts + vec_len l.fn.seats)
    × (l.all.grants.amount ≡ granted_by l.counts.items) × (l.all.takes.amount ≡ taken_by l.counts.items) × (vec_len l.seats + vec_len l.counts ≤ vec_capacity l.counts)

abbrev pub decreases-loop-seat : goal.decreases-loop-seat
decreases-loop-seat g l = vec_len l.seats
