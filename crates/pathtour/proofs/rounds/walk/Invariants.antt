use Rattle.std.proofs.Common.{◌≡◌, ℕ, ◌<◌, ◌++◌, List, length}
use Rattle.pathtour.specs.Rounds.{GoesHome, IsRound}
use Rattle.pathtour.proofs.RoundLemmas.{BeginRounds}
use Rattle.pathtour.proofs.rounds.walk.Given as goal

abbrev pub invariant-loop : goal.invariant-loop
invariant-loop l = record {
  long : length l.cities.items ≡ l.counter;
  within : l.to < l.n;
  ends : (rest : List ℕ) → GoesHome l.pairs l.from l.to rest → IsRound l.pairs (l.cities.items ++ rest);
  begins : BeginRounds l.n l.pairs l.cities.items l.from l.to;
}
