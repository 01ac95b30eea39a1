use Rattle.std.proofs.Common.{◌≡◌, ℕ, ◌<◌, Bool}
use Rattle.onetree.specs.Ascents.{IsStill}
use Rattle.onetree.proofs.ascent.Valued.raise.Given as goal

abbrev pub invariant-loop-city : goal.invariant-loop-city
invariant-loop-city l = record {
  duals : l.self.duals.items ≡ l.initial.self.duals.items;
  same : l.self.value ≡ l.initial.self.value;
  still : (c : ℕ) (up : Bool) → c < l.city → IsStill l.instance l.initial.self.duals.items l.initial.self.value c up;
}
