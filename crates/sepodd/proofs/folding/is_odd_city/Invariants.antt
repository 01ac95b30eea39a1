use Rattle.std.proofs.Common.{length, ◌≡◌, ◌==◌}
use Rattle.sepodd.specs.Folding.{differ, is_odd}
use Rattle.sepodd.proofs.folding.is_odd_city.Given as goal

abbrev pub invariant-loop-entry : goal.invariant-loop-entry
invariant-loop-entry l = differ l.odd (is_odd l.rest (λ k. k == l.city)) ≡ is_odd l.entries (λ k. k == l.city)

abbrev pub decreases-loop-entry : goal.decreases-loop-entry
decreases-loop-entry l = length l.rest
