use Rattle.std.proofs.Common.{◌≡◌, ℕ, List, ◌++◌, length}
use Rattle.std.specs.Prelude.{reverse}
use Rattle.certtests.specs.Moving.{without, named_in}
use Rattle.certtests.proofs.moving.take_out.Given as goal

abbrev pub invariant-loop-last : goal.invariant-loop-last
invariant-loop-last l = (done : List (ℕ × ℕ)) × (l.duals ≡ l.rest ++ done) × (l.cuts.items ≡ without l.initial.cuts.items done)
    × (l.named.items ≡ reverse (named_in l.initial.cuts.items done))

abbrev pub decreases-loop-last : goal.decreases-loop-last
decreases-loop-last l = length l.rest
