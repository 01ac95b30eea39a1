use Rattle.std.proofs.Common.{◌≡◌, ◌+◌, ◌≤◌, drop}
use Rattle.onetree.specs.OneTrees.{degree}
use Rattle.onetree.proofs.ascent.degree_of.Given as goal

abbrev pub invariant-loop-pair : goal.invariant-loop-pair
invariant-loop-pair l = record {
  rest : l.met + degree l.city (drop l.pair-index l.pairs) ≡ degree l.city l.pairs;
  few : l.met ≤ l.pair-index;
}
