use Rattle.std.proofs.Common.{◌≡◌, ℕ, ◌*◌, ◌/◌, ◌<◌, ◌≤◌, length}
use Rattle.tournament.specs.Places.{entry_at}
use Rattle.tournament.specs.Entries.{AreMadeBut}
use Rattle.tournament.proofs.raise.Given as goal

abbrev pub invariant-loop-here : goal.invariant-loop-here
invariant-loop-here l = record {
  long : length l.entries.items ≡ 2 * l.size;
  from : 1 ≤ l.here;
  inside : l.here < 2 * l.size;
  made : AreMadeBut l.entries.items l.size (l.here / 2);
  places : (i : ℕ) → l.size ≤ i → entry_at l.entries.items i ≡ entry_at l.initial.entries.items i;
}

abbrev pub decreases-loop-here : goal.decreases-loop-here
decreases-loop-here l = l.here
