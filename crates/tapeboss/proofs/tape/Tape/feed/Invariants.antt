use Rattle.std.proofs.Common.{◌≡◌, ℕ, List, ◌++◌, length}
use Rattle.tapeboss.specs.Tapes.{GoesOn}
use Rattle.tapeboss.proofs.tape.Tape.feed.Given as goal

abbrev pub invariant-loop-rest : goal.invariant-loop-rest
invariant-loop-rest l = (done : List ℕ) × (lines : List ℕ) × (l.piece ≡ done ++ l.rest) × (l.out.items ≡ l.fn.out.items ++ lines) × GoesOn l.fn.self done lines l.tape

abbrev pub decreases-loop-rest : goal.decreases-loop-rest
decreases-loop-rest l = length l.rest
