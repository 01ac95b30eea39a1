use Rattle.std.proofs.Common.{◌≡◌, ◌+◌, vec_len}
use Rattle.tspround.proofs.round.seats_of.Given as goal

abbrev pub invariant-loop-grunt : goal.invariant-loop-grunt
invariant-loop-grunt g l =
    (l.all.grants.parts + l.grunt ≡ l.grunts + 1) × (l.all.takes.parts + l.grunt ≡ l.grunts + 1) × (l.all.grants.amount ≡ 0) × (l.all.takes.amount ≡ 0) × (vec_len l.seats + 1 ≡ l.grunt)
