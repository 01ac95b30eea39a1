use Rattle.std.proofs.Common.{◌≡◌, List, length}
use Rattle.std.specs.Prelude.{reverse}
use Rattle.std.specs.List.{AllByRecursion}
use Rattle.tspdef.specs.Cuts.{Cut}
use Rattle.certtests.specs.Places.{IsFromOne}
use Rattle.certtests.specs.Moving.{Rise, without, named_in, AreTakenOut}
use Rattle.certtests.proofs.moving.put_back.Given as goal

abbrev pub invariant-loop-first : goal.invariant-loop-first
invariant-loop-first l = (before : List Cut) → AreTakenOut before l.duals l.initial.cuts.items (reverse l.initial.left.items)
    → AllByRecursion (λ q. IsFromOne (length before) q.0) l.rest × Rise 1 l.rest × (l.cuts.items ≡ without before l.rest)
    × (l.left.items ≡ reverse (named_in before l.rest))

abbrev pub decreases-loop-first : goal.decreases-loop-first
decreases-loop-first l = length l.rest
